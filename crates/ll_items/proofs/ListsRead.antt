-- Lists between braces as they are read, whatever the items: what each exit of a reader answers, and that they are parts.
use Rattle.std.proofs.Common.{◌≡◌, ℕ, ◌-◌, ◌<◌, List, [], ◌∷◌, ◌++◌, length, drop, refl, sym, ap, ◌∙◌, subst, inl, inr, arith}
use Rattle.ll_tokens.specs.declared.kinds.Token.{Token}
use Rattle.ll_tokens.specs.Tokens.{Lexeme, lexemes_of}
use Rattle.ll_tree.specs.declared.name.NameText.{NameText}
use Rattle.ll_parser.specs.declared.refusal.ReadError.{ReadError}
use Rattle.ll_parser.specs.declared.refusal.ReadError.TheVariants.{NoMemory, Refused}
use Rattle.ll_parser.specs.declared.refusal.Refusal.{Refusal}
use Rattle.ll_parser.specs.NameReading.{ReadsWith}
use Rattle.ll_parser.specs.Productions.{Production, ◌>>◌, each_behind_comma, mark, nothing}
use Rattle.ll_parser.specs.Reading.{EndsNowhere}
use Rattle.ll_parser.proofs.TableFacts.{extends_same, extends_then}
use Rattle.ll_types.specs.ValueRefusals.{Unless}
use Rattle.ll_types.proofs.MembersRead.{derived}
use Rattle.ll_types.proofs.Tokens.{Shortens, marks_apart, seq_shortens, shortens_ends, token_shortens}
use Rattle.ll_attributes.proofs.LoopFacts.{SoFar, at_start, fewer_left, one_more, so_far}
use Rattle.ll_operands.specs.Parts.{Begins, Part, Refuses, mark_part, ◌then◌, repeated, times}
use Rattle.ll_operands.proofs.PartFacts.{IsExact, exact_either, exact_mark, exact_repeated, exact_then}
use Rattle.ll_items.specs.ItemParts.{NextStops, braced, braced_part, some_listed, some_part}

-- what begins the tokens, of which so many are left then
pub begun : (grown one : Production) → Shortens one → (tokens behind : List Token) (left : ℕ) → ((a c : List Lexeme) → one a c → grown a c) → one (lexemes_of tokens) (lexemes_of behind) → left ≡ length behind → SoFar grown tokens left
begun grown one shortens tokens behind left step d count =
    let none : length tokens - length tokens ≡ 0 = omega arith in
    one_more nothing one shortens grown tokens tokens behind (length tokens) left (λ a b c same o. step a c (subst (λ ls. one ls c) (sym same) o)) (at_start nothing tokens (length tokens) refl refl) (sym (ap (λ (n : ℕ). drop n tokens) none)) d count

-- what needs no table of names, as what is read with one
pub without_names : {A : Type 0} (item : A → Production) (x : A) (tokens rest : List Lexeme) → item x tokens rest → ReadsWith (λ _. item) [] [] x tokens rest
without_names item x tokens rest d = record { extends = extends_same []; reads = λ longer e. d }

pub with_no_name : {A : Type 0} (item : A → Production) (old new : List NameText) (x : A) (tokens rest : List Lexeme) → ReadsWith (λ _. item) old new x tokens rest → item x tokens rest
with_no_name item old new x tokens rest r = r.reads new (extends_same new)

-- one item more
module _ {A : Type 0} (item : A → Production) where
  push_behind : (xs : List A) (x : A) (a b c : List Lexeme) → each_behind_comma item xs a b → (mark 44 >> item x) b c → each_behind_comma item (xs ++ x ∷ []) a c
  unfolding ◌>>◌
  push_behind [] x a b c same (m, comma, d) = (m, subst (λ ls. mark 44 ls m) (sym same) comma, (c, d, refl))
  push_behind (y ∷ ys) x a b c (m, comma, (n, d, more)) next = (m, comma, (n, d, push_behind ys x n b c more next))

  pub some_push : (xs : List A) (x : A) (a b c : List Lexeme) → some_listed item xs a b → (mark 44 >> item x) b c → some_listed item (xs ++ x ∷ []) a c
  unfolding ◌>>◌
  some_push [] x a b c d next = absurd d
  some_push (y ∷ ys) x a b c (m, d, more) next = (m, d, push_behind ys x m b c more next)

  pub some_one : (x : A) (a b : List Lexeme) → item x a b → some_listed item (x ∷ []) a b
  unfolding ◌>>◌
  some_one x a b d = (b, d, refl)

  pub closed : (xs : List A) (a m b : List Lexeme) → some_listed item xs a m → mark 125 m b → braced item xs a b
  unfolding ◌>>◌
  closed [] a m b d close = absurd d
  closed (x ∷ xs) a m b d close = (m, d, close)

  pub none_listed : (xs : List A) (a b : List Lexeme) → xs ≡ [] → mark 125 a b → braced item xs a b
  unfolding ◌>>◌
  none_listed xs a b empty close = subst (λ (ys : List A). braced item ys a b) (sym empty) (a, refl, close)

-- lists as parts
module _ (part : Part) (exact : IsExact part) where
  comma_opens : (tokens rest : List Lexeme) → (mark 44 >> part.begins) tokens rest → Begins (mark 44) tokens
  unfolding ◌>>◌
  comma_opens tokens rest (m, comma, d) = (m, comma)

  pub exact_some : IsExact (some_part part)
  exact_some = exact_then part (repeated (mark 44) (mark_part 44 then part)) exact (exact_repeated (mark 44) (mark_part 44 then part) (exact_then (mark_part 44) part (exact_mark 44) exact) comma_opens)

  pub exact_braced : IsExact (braced_part part)
  exact_braced = exact_either (mark 125) (mark_part 125) (some_part part then mark_part 125) (exact_mark 125) (exact_then (some_part part) (mark_part 125) exact_some (exact_mark 125)) (λ tokens rest d. (rest, d))

-- the items of a list, with the part that each of them is
module _ {A : Type 0} (item : List NameText → A → Production) (part : Part)
    (is_part : (names : List NameText) (x : A) (tokens rest : List Lexeme) → item names x tokens rest → part.begins tokens rest) where
  counted : (names : List NameText) (xs : List A) (a b : List Lexeme) → each_behind_comma (item names) xs a b → times (length xs) (mark 44 >> part.begins) a b
  unfolding ◌>>◌
  counted names [] a b same = same
  counted names (x ∷ xs) a b (m, comma, (n, d, more)) = (n, (m, comma, is_part names x m n d), counted names xs n b more)

  pub some_begins : (names : List NameText) (xs : List A) (a b : List Lexeme) → some_listed (item names) xs a b → EndsNowhere (mark 44) b → (some_part part).begins a b
  unfolding ◌>>◌
  some_begins names [] a b d nowhere = absurd d
  some_begins names (x ∷ xs) a b (m, d, more) nowhere = (m, is_part names x a m d, (length xs, counted names xs m b more, nowhere))

  some_refused : (names : List NameText) (xs : List A) (a b : List Lexeme) (refusal : Refusal) → some_listed (item names) xs a b → NextStops part b refusal → (some_part part).stops a refusal
  unfolding ◌>>◌
  some_refused names [] a b refusal d stops = absurd d
  some_refused names (x ∷ xs) a b refusal (m, d, more) (behind, comma, stops) =
      inr (m, is_part names x a m d, (length xs, b, counted names xs m b more, (behind, comma), inr (behind, comma, stops)))

  pub braced_is_part : ((names : List NameText) (x : A) (tokens a b : List Lexeme) → item names x tokens a → mark 125 tokens b → ⊥) → (names : List NameText) (xs : List A) (tokens rest : List Lexeme) → braced (item names) xs tokens rest → (braced_part part).begins tokens rest
  unfolding ◌>>◌
  braced_is_part no_close names [] tokens rest (m, same, close) = inl (subst (λ ls. mark 125 ls rest) (sym same) close)
  braced_is_part no_close names (x ∷ xs) tokens rest (m, (n, d, more), close) =
      inr (λ b end. no_close names x tokens n b d end, (m, some_begins names (x ∷ xs) tokens m (n, d, more) (λ b comma. marks_apart 125 44 m rest b (λ e. omega arith) close comma), close))

  -- a list that is refused
  pub refused_inside : (tokens : List Lexeme) (error told : ReadError) → told ≡ error → EndsNowhere (mark 125) tokens → Refuses (some_part part) tokens error → Refuses (braced_part part) tokens told
  refused_inside tokens NoMemory told same nowhere x = subst (Refuses (braced_part part) tokens) (sym same) tt
  refused_inside tokens (Refused refusal) told same nowhere x = subst (Refuses (braced_part part) tokens) (sym same) (inr (nowhere, inl x))

  pub refused_at_end : (old new : List NameText) (xs : List A) (tokens behind : List Lexeme) (refusal : Refusal) (told : ReadError) → told ≡ Refused refusal → EndsNowhere (mark 125) tokens → ReadsWith (λ names. some_listed (item names)) old new xs tokens behind → EndsNowhere (mark 44) behind → (mark_part 125).stops behind refusal → Refuses (braced_part part) tokens told
  refused_at_end old new xs tokens behind refusal told same nowhere r no_comma stops =
      subst (Refuses (braced_part part) tokens) (sym same) (inr (nowhere, inr (behind, some_begins new xs tokens behind (derived (λ names. some_listed (item names)) old new xs tokens behind r) no_comma, stops)))

  -- a list that is read
  pub braced_read : (old new : List NameText) (xs : List A) (tokens behind rest : List Lexeme) → ReadsWith (λ names. some_listed (item names)) old new xs tokens behind → mark 125 behind rest → ReadsWith (λ names. braced (item names)) old new xs tokens rest
  braced_read old new xs tokens behind rest r close = record { extends = r.extends; reads = λ longer e. closed (item longer) xs tokens behind rest (r.reads longer e) close }

  pub none_read : (names : List NameText) (xs : List A) (tokens rest : List Lexeme) → xs ≡ [] → mark 125 tokens rest → ReadsWith (λ longer. braced (item longer)) names names xs tokens rest
  none_read names xs tokens rest empty close = record { extends = extends_same names; reads = λ longer e. none_listed (item longer) xs tokens rest empty close }

  abbrev pub ListSoFar : (old now : List NameText) (tokens : List Token) (xs : List A) (left : ℕ) → Type 0
  ListSoFar old now tokens xs left = SoFar (ReadsWith (λ names. some_listed (item names)) old now xs) tokens left

  abbrev pub Next : List NameText → A → Production
  Next names x = mark 44 >> item names x

  one_item_more : (old now next : List NameText) (xs : List A) (x : A) (a b c : List Lexeme) → ReadsWith (λ names. some_listed (item names)) old now xs a b → ReadsWith Next now next x b c → ReadsWith (λ names. some_listed (item names)) old next (xs ++ x ∷ []) a c
  one_item_more old now next xs x a b c before r = record {
    extends = extends_then old now next before.extends r.extends;
    reads = λ longer e. some_push (item longer) xs x a b c (before.reads longer (extends_then now next longer r.extends e)) (r.reads longer e);
  }

  first_item : (old now : List NameText) (x : A) (a b : List Lexeme) → ReadsWith item old now x a b → ReadsWith (λ names. some_listed (item names)) old now (x ∷ []) a b
  first_item old now x a b r = record { extends = r.extends; reads = λ longer e. some_one (item longer) x a b (r.reads longer e) }

  -- the loop over the items
  module _ (shortens : (names : List NameText) (x : A) → Shortens (item names x)) where
    item_shortens : (old new : List NameText) (x : A) → Shortens (ReadsWith item old new x)
    item_shortens old new x tokens rest r = shortens new x tokens rest (derived item old new x tokens rest r)

    next_shortens : (old new : List NameText) (x : A) → Shortens (ReadsWith Next old new x)
    next_shortens old new x tokens rest r = seq_shortens (mark 44) (item new x) (token_shortens _ _) (shortens_ends _ (shortens new x)) tokens rest (derived Next old new x tokens rest r)

    pub list_begun : (old now : List NameText) (x : A) (none xs : List A) (tokens behind : List Token) (left : ℕ) → ReadsWith item old now x (lexemes_of tokens) (lexemes_of behind) → xs ≡ none ++ x ∷ [] → none ≡ [] → left ≡ length behind → ListSoFar old now tokens xs left
    list_begun old now x none xs tokens behind left r is empty count =
        subst (λ (ys : List A). ListSoFar old now tokens ys left) (sym (is ∙ ap (λ (ys : List A). ys ++ x ∷ []) empty))
        (begun (ReadsWith (λ names. some_listed (item names)) old now (x ∷ [])) (ReadsWith item old now x) (item_shortens old now x) tokens behind left (first_item old now x) r count)

    pub fewer_items : (old now next : List NameText) (tokens here behind : List Token) (xs : List A) (x : A) (left : ℕ) → ListSoFar old now tokens xs left → here ≡ drop (length tokens - left) tokens → ReadsWith Next now next x (lexemes_of here) (lexemes_of behind) → length behind < left
    fewer_items old now next tokens here behind xs x left = fewer_left (ReadsWith (λ names. some_listed (item names)) old now xs) (ReadsWith Next now next x) (next_shortens now next x) tokens here behind left

    pub more_items : (old now next : List NameText) (tokens here behind : List Token) (xs ys : List A) (x : A) (left after : ℕ) → ListSoFar old now tokens xs left → here ≡ drop (length tokens - left) tokens → ReadsWith Next now next x (lexemes_of here) (lexemes_of behind) → ys ≡ xs ++ x ∷ [] → after ≡ length behind → ListSoFar old next tokens ys after
    more_items old now next tokens here behind xs ys x left after s is r grown count =
        subst (λ (zs : List A). ListSoFar old next tokens zs after) (sym grown)
        (one_more (ReadsWith (λ names. some_listed (item names)) old now xs) (ReadsWith Next now next x) (next_shortens now next x) (ReadsWith (λ names. some_listed (item names)) old next (xs ++ x ∷ [])) tokens here behind left after (one_item_more old now next xs x) s is r count)

  pub list_read : (old now new : List NameText) (tokens here end : List Token) (xs : List A) (left : ℕ) → ListSoFar old now tokens xs left → here ≡ drop (length tokens - left) tokens → end ≡ drop (length tokens - left) tokens → (new ≡ now) × EndsNowhere (mark 44) (lexemes_of here) → ReadsWith (λ names. some_listed (item names)) old new xs (lexemes_of tokens) (lexemes_of end) × EndsNowhere (mark 44) (lexemes_of end)
  list_read old now new tokens here end xs left s is is' (same, none) = (
    subst (λ (ns : List NameText). ReadsWith (λ names. some_listed (item names)) old ns xs (lexemes_of tokens) (lexemes_of end)) (sym same) (so_far (ReadsWith (λ names. some_listed (item names)) old now xs) tokens end left s is'),
    subst (λ (ls : List Token). EndsNowhere (mark 44) (lexemes_of ls)) (is ∙ sym is') none,
  )

  pub list_stops : (old now : List NameText) (tokens here : List Token) (xs : List A) (left : ℕ) (error told : ReadError) → told ≡ error → ListSoFar old now tokens xs left → here ≡ drop (length tokens - left) tokens → Unless (NextStops part (lexemes_of here)) error → Refuses (some_part part) (lexemes_of tokens) told
  list_stops old now tokens here xs left NoMemory told same s is stops = subst (Refuses (some_part part) (lexemes_of tokens)) (sym same) tt
  list_stops old now tokens here xs left (Refused refusal) told same s is stops =
      subst (Refuses (some_part part) (lexemes_of tokens)) (sym same)
      (some_refused now xs (lexemes_of tokens) (lexemes_of here) refusal (derived (λ names. some_listed (item names)) old now xs _ _ (so_far (ReadsWith (λ names. some_listed (item names)) old now xs) tokens here left s is)) stops)
