-- Items that are read one behind another, with a table that grows.
use Rattle.std.proofs.Common.{◌≡◌, ℕ, ◌-◌, ◌<◌, ◌≤◌, List, [], ◌∷◌, ◌++◌, length, drop, refl, sym, ap, ◌∙◌, subst, arith, append_assoc, append-nil}
use Rattle.ll_tokens.specs.declared.kinds.Token.{Token}
use Rattle.ll_tokens.specs.Tokens.{Lexeme, lexemes_of}
use Rattle.ll_tree.specs.declared.name.NameText.{NameText}
use Rattle.ll_parser.specs.declared.refusal.ReadError.{ReadError}
use Rattle.ll_parser.specs.declared.refusal.ReadError.TheVariants.{NoMemory, Refused}
use Rattle.ll_parser.specs.NameReading.{ReadsWith}
use Rattle.ll_parser.specs.Productions.{Production, ◌>>◌, each}
use Rattle.ll_parser.proofs.EndFacts.{Ends, ends_then, lexemes_drop, drop_ends}
use Rattle.ll_parser.proofs.TableFacts.{extends_same, extends_then}
use Rattle.ll_types.proofs.MembersRead.{derived, fewer, left_of}
use Rattle.ll_types.proofs.PartsRead.{here_fewer}
use Rattle.ll_types.proofs.Tokens.{Shortens}
use Rattle.ll_operands.specs.Parts.{Part, Refuses, optional, repeated, times}

-- what was read before, and items one behind another
unfoldable pub gathered : {A : Type 0} → (List NameText → A → Production) → List A → List NameText → List A → Production
gathered {A} item before names all tokens rest = (xs : List A) × (all ≡ before ++ xs) × each (item names) xs tokens rest

-- these are read, and this many tokens are left
pub record ItemsSoFar {A : Type 0} (item : List NameText → A → Production) (old now : List NameText) (before : List A) (tokens : List Token) (all : List A) (left : ℕ) : Type 0 where
  pub in_range : left ≤ length tokens
  pub read : ReadsWith (gathered item before) old now all (lexemes_of tokens) (lexemes_of (drop (length tokens - left) tokens))

module _ {A : Type 0} (item : List NameText → A → Production) (shortens : (names : List NameText) (x : A) → Shortens (item names x)) where
  pub none_yet : (names : List NameText) (before : List A) (tokens : List Token) (left : ℕ) → left ≡ length tokens → ItemsSoFar item names names before tokens before left
  unfolding gathered
  none_yet names before tokens left whole =
      let at_start : length tokens - left ≡ 0 = omega arith in
      record {
        in_range = omega arith;
        read = record {
          extends = extends_same names;
          reads = λ longer e. ([], sym (append-nil before), ap (λ n. lexemes_of (drop n tokens)) (sym at_start));
        };
      }

  pub item_fewer : (old now next : List NameText) (before all : List A) (x : A) (tokens here behind : List Token) (left : ℕ) → ItemsSoFar item old now before tokens all left → here ≡ drop (length tokens - left) tokens → ReadsWith item now next x (lexemes_of here) (lexemes_of behind) → length behind < left
  item_fewer old now next before all x tokens here behind left so_far is r =
      let a : length here ≡ left = here_fewer tokens here left so_far.in_range is in
      let b : length behind < length here = fewer here behind (shortens next x _ _ (derived item now next x _ _ r)).less in
      omega arith

  push_item : (names : List NameText) (xs : List A) (x : A) (tokens middle rest : List Lexeme) → each (item names) xs tokens middle → item names x middle rest → each (item names) (xs ++ x ∷ []) tokens rest
  unfolding ◌>>◌
  push_item names [] x tokens middle rest same one = (rest, subst (λ ls. item names x ls rest) (sym same) one, refl)
  push_item names (y ∷ ys) x tokens middle rest (a, first, more) one = (a, first, push_item names ys x a middle rest more one)

  push_gathered : (before : List A) (names : List NameText) (all more : List A) (x : A) (tokens middle rest : List Lexeme) → more ≡ all ++ x ∷ [] → gathered item before names all tokens middle → item names x middle rest → gathered item before names more tokens rest
  unfolding gathered
  push_gathered before names all more x tokens middle rest is (xs, made, d) one =
      (xs ++ x ∷ [], is ∙ ap (λ ys. ys ++ x ∷ []) made ∙ append_assoc before xs (x ∷ []), push_item names xs x tokens middle rest d one)

  pub one_more : (old now next : List NameText) (before all more : List A) (x : A) (tokens here behind : List Token) (left count : ℕ) → ItemsSoFar item old now before tokens all left → here ≡ drop (length tokens - left) tokens → ReadsWith item now next x (lexemes_of here) (lexemes_of behind) → more ≡ all ++ x ∷ [] → count ≡ length behind → ItemsSoFar item old next before tokens more count
  one_more old now next before all more x tokens here behind left count so_far is r grown counted =
      let less : length behind < left = item_fewer old now next before all x tokens here behind left so_far is r in
      let bound : left ≤ length tokens = so_far.in_range in
      let here_ends : Ends (lexemes_of tokens) (lexemes_of here) = subst (Ends (lexemes_of tokens)) (sym (ap lexemes_of is ∙ lexemes_drop _ tokens)) (drop_ends _ (lexemes_of tokens)) in
      let behind_ends : Ends (lexemes_of here) (lexemes_of behind) = (shortens next x _ _ (derived item now next x _ _ r)).ends in
      let end : Ends (lexemes_of tokens) (lexemes_of behind) = ends_then _ _ _ here_ends behind_ends in
      let same : lexemes_of behind ≡ lexemes_of (drop (length tokens - count) tokens) = left_of tokens behind count end counted in
      record {
        in_range = omega arith;
        read = record {
          extends = extends_then old now next so_far.read.extends r.extends;
          reads = λ longer e.
              subst (λ ls. gathered item before longer more (lexemes_of tokens) ls) same
              (push_gathered before longer all more x _ _ _ grown (subst (λ ls. gathered item before longer all (lexemes_of tokens) (lexemes_of ls)) (sym is) (so_far.read.reads longer (extends_then now next longer r.extends e))) (r.reads longer e));
        };
      }

  -- what was read, with the table that the last call left as it was
  pub read_here : (old now next : List NameText) (before all : List A) (tokens here : List Token) (left : ℕ) → next ≡ now → ItemsSoFar item old now before tokens all left → here ≡ drop (length tokens - left) tokens → ReadsWith (gathered item before) old next all (lexemes_of tokens) (lexemes_of here)
  read_here old now next before all tokens here left kept so_far is =
      subst (λ ls. ReadsWith (gathered item before) old next all (lexemes_of tokens) (lexemes_of ls)) (sym is)
      (subst (λ ns. ReadsWith (gathered item before) old ns all (lexemes_of tokens) (lexemes_of (drop (length tokens - left) tokens))) (sym kept) so_far.read)

  -- items are so many parts
  items_times : (p : Part) → ((names : List NameText) (x : A) (tokens rest : List Lexeme) → item names x tokens rest → p.begins tokens rest) → (names : List NameText) (xs : List A) (tokens rest : List Lexeme) → each (item names) xs tokens rest → times (length xs) p.begins tokens rest
  unfolding ◌>>◌
  items_times p is_part names [] tokens rest same = same
  items_times p is_part names (x ∷ xs) tokens rest (a, first, more) = (a, is_part names x tokens a first, items_times p is_part names xs a rest more)

  gathered_times : (p : Part) → ((names : List NameText) (x : A) (tokens rest : List Lexeme) → item names x tokens rest → p.begins tokens rest) → (names : List NameText) (before all : List A) (tokens rest : List Lexeme) → gathered item before names all tokens rest → (count : ℕ) × times count p.begins tokens rest
  unfolding gathered
  gathered_times p is_part names before all tokens rest (xs, made, d) = (length xs, items_times p is_part names xs tokens rest d)

  pub so_far_times : (p : Part) → ((names : List NameText) (x : A) (tokens rest : List Lexeme) → item names x tokens rest → p.begins tokens rest) → (old now : List NameText) (before all : List A) (tokens here : List Token) (left : ℕ) → ItemsSoFar item old now before tokens all left → here ≡ drop (length tokens - left) tokens → (count : ℕ) × times count p.begins (lexemes_of tokens) (lexemes_of here)
  so_far_times p is_part old now before all tokens here left so_far is =
      gathered_times p is_part now before all _ _ (derived (gathered item before) old now all _ _ (read_here old now now before all tokens here left refl so_far is))

-- a part is refused behind some
pub repeated_refused : (opening : Production) (p : Part) (tokens middle : List Lexeme) (told : ReadError) → (count : ℕ) × times count p.begins tokens middle → Refuses (optional opening p) middle told → Refuses (repeated opening p) tokens told
repeated_refused opening p tokens middle NoMemory d x = x
repeated_refused opening p tokens middle (Refused refusal) d x = (d.0, middle, d.1, x.0, x.1)
