-- Values behind commas, read one by one.
use Rattle.std.proofs.Common.{◌≡◌, ℕ, ◌-◌, ◌<◌, ◌≤◌, List, [], ◌∷◌, ◌++◌, length, drop, refl, sym, ap, ◌∙◌, subst, arith, append_assoc, append-nil}
use Rattle.std.proofs.lemmas.List.{length-drop}
use Rattle.ll_tokens.specs.declared.kinds.Token.{Token}
use Rattle.ll_tokens.specs.Tokens.{Lexeme, lexemes_of}
use Rattle.ll_tree.specs.declared.name.NameText.{NameText}
use Rattle.ll_tree.specs.declared.value.TypedValue.{TypedValue}
use Rattle.ll_parser.specs.GrammarValues.{typed}
use Rattle.ll_parser.specs.NameReading.{ReadsWith}
use Rattle.ll_parser.specs.Productions.{Production, ◌>>◌, mark, each_behind_comma}
use Rattle.ll_parser.specs.Reading.{EndsNowhere}
use Rattle.ll_parser.proofs.EndFacts.{Ends, ends_then, lexemes_drop, drop_ends}
use Rattle.ll_parser.proofs.TableFacts.{extends_same, extends_then}
use Rattle.ll_types.specs.ValueParts.{grown}
use Rattle.ll_types.proofs.MembersRead.{derived, fewer, left_of, mark_fewer}
use Rattle.ll_types.proofs.Tokens.{token_shortens}
use Rattle.ll_types.proofs.ValueRows.{typed_shortens}

-- what was read before, and values behind commas
pub gathered : List TypedValue → List NameText → List TypedValue → Production
gathered before names all tokens rest = (vs : List TypedValue) × (all ≡ before ++ vs) × each_behind_comma (typed names) vs tokens rest

pub record PartsSoFar (old now : List NameText) (before : List TypedValue) (tokens : List Token) (all : List TypedValue) (left : ℕ) : Type 0 where
  pub in_range : left ≤ length tokens
  pub read : ReadsWith (gathered before) old now all (lexemes_of tokens) (lexemes_of (drop (length tokens - left) tokens))

pub no_part_yet : (names : List NameText) (before : List TypedValue) (tokens : List Token) (left : ℕ) → left ≡ length tokens → PartsSoFar names names before tokens before left
unfolding gathered
no_part_yet names before tokens left whole =
    let at_start : length tokens - left ≡ 0 = omega arith in
    record {
      in_range = omega arith;
      read = record {
        extends = extends_same names;
        reads = λ longer e. ([], sym (append-nil before), ap (λ n. lexemes_of (drop n tokens)) (sym at_start));
      };
    }

pub part_fewer : (old now : List NameText) (v : TypedValue) (tokens rest : List Token) → ReadsWith typed old now v (lexemes_of tokens) (lexemes_of rest) → length rest < length tokens
part_fewer old now v tokens rest r = fewer tokens rest (typed_shortens now v _ _ (derived typed old now v _ _ r)).less

pub here_fewer : (tokens here : List Token) (left : ℕ) → left ≤ length tokens → here ≡ drop (length tokens - left) tokens → length here ≡ left
here_fewer tokens here left le is =
    let whole : length here ≡ length tokens - (length tokens - left) = ap length is ∙ length-drop (length tokens - left) tokens in omega arith

pub left_fewer : (old now next : List NameText) (before all : List TypedValue) (v : TypedValue) (tokens here inside behind : List Token) (left : ℕ) → PartsSoFar old now before tokens all left → here ≡ drop (length tokens - left) tokens → mark 44 (lexemes_of here) (lexemes_of inside) → ReadsWith typed now next v (lexemes_of inside) (lexemes_of behind) → length behind < left
left_fewer old now next before all v tokens here inside behind left so_far is comma r =
    let a : length here ≡ left = here_fewer tokens here left so_far.in_range is in
    let b : length inside < length here = mark_fewer 44 here inside comma in
    let c : length behind < length inside = part_fewer now next v inside behind r in
    omega arith

pub inside_fewer : (old now : List NameText) (before all : List TypedValue) (tokens here inside : List Token) (left : ℕ) → PartsSoFar old now before tokens all left → here ≡ drop (length tokens - left) tokens → mark 44 (lexemes_of here) (lexemes_of inside) → length inside < length tokens
inside_fewer old now before all tokens here inside left so_far is comma =
    let a : length here ≡ left = here_fewer tokens here left so_far.in_range is in
    let b : length inside < length here = mark_fewer 44 here inside comma in
    let c : left ≤ length tokens = so_far.in_range in
    omega arith

push_behind : (names : List NameText) (vs : List TypedValue) (v : TypedValue) (tokens middle inside rest : List Lexeme) → each_behind_comma (typed names) vs tokens middle → mark 44 middle inside → typed names v inside rest → each_behind_comma (typed names) (vs ++ v ∷ []) tokens rest
unfolding ◌>>◌
push_behind names [] v tokens middle inside rest same comma d = (inside, subst (λ ls. mark 44 ls inside) (sym same) comma, (rest, d, refl))
push_behind names (x ∷ xs) v tokens middle inside rest (a, comma', (b, e, more)) comma d = (a, comma', (b, e, push_behind names xs v b middle inside rest more comma d))

push_gathered : (before : List TypedValue) (names : List NameText) (all more : List TypedValue) (v : TypedValue) (tokens middle inside rest : List Lexeme) → more ≡ all ++ v ∷ [] → gathered before names all tokens middle → mark 44 middle inside → typed names v inside rest → gathered before names more tokens rest
unfolding gathered
push_gathered before names all more v tokens middle inside rest is (vs, made, d) comma e =
    (vs ++ v ∷ [], is ∙ ap (λ xs. xs ++ v ∷ []) made ∙ append_assoc before vs (v ∷ []), push_behind names vs v tokens middle inside rest d comma e)

pub one_part_more : (old now next : List NameText) (before all more : List TypedValue) (v : TypedValue) (tokens here inside behind : List Token) (left count : ℕ) → PartsSoFar old now before tokens all left → here ≡ drop (length tokens - left) tokens → mark 44 (lexemes_of here) (lexemes_of inside) → ReadsWith typed now next v (lexemes_of inside) (lexemes_of behind) → more ≡ all ++ v ∷ [] → count ≡ length behind → PartsSoFar old next before tokens more count
one_part_more old now next before all more v tokens here inside behind left count so_far is comma r grown_by counted =
    let less : length behind < left = left_fewer old now next before all v tokens here inside behind left so_far is comma r in
    let bound : left ≤ length tokens = so_far.in_range in
    let here_ends : Ends (lexemes_of tokens) (lexemes_of here) = subst (Ends (lexemes_of tokens)) (sym (ap lexemes_of is ∙ lexemes_drop _ tokens)) (drop_ends _ (lexemes_of tokens)) in
    let inside_ends : Ends (lexemes_of here) (lexemes_of inside) = (token_shortens _ _ _ _ comma).ends in
    let behind_ends : Ends (lexemes_of inside) (lexemes_of behind) = (typed_shortens next v _ _ (derived typed now next v _ _ r)).ends in
    let end : Ends (lexemes_of tokens) (lexemes_of behind) = ends_then _ _ _ here_ends (ends_then _ _ _ inside_ends behind_ends) in
    let same : lexemes_of behind ≡ lexemes_of (drop (length tokens - count) tokens) = left_of tokens behind count end counted in
    record {
      in_range = omega arith;
      read = record {
        extends = extends_then old now next so_far.read.extends r.extends;
        reads = λ longer e.
            subst (λ ls. gathered before longer more (lexemes_of tokens) ls) same
            (push_gathered before longer all more v _ _ _ _ grown_by (subst (λ ls. gathered before longer all (lexemes_of tokens) (lexemes_of ls)) (sym is) (so_far.read.reads longer (extends_then now next longer r.extends e))) comma (r.reads longer e));
      };
    }

all_gathered : (before : List TypedValue) (names : List NameText) (all : List TypedValue) (tokens rest : List Lexeme) → gathered before names all tokens rest → EndsNowhere (mark 44) rest → grown before names all tokens rest
unfolding gathered
all_gathered before names all tokens rest (vs, made, d) no_comma = (vs, made, d, no_comma)

pub parts_end : (old now : List NameText) (before all : List TypedValue) (tokens here last : List Token) (left : ℕ) → PartsSoFar old now before tokens all left → here ≡ drop (length tokens - left) tokens → last ≡ drop (length tokens - left) tokens → EndsNowhere (mark 44) (lexemes_of here) → ReadsWith (grown before) old now all (lexemes_of tokens) (lexemes_of last)
parts_end old now before all tokens here last left so_far is is' no_comma = record {
  extends = so_far.read.extends;
  reads = λ longer e.
      all_gathered before longer all _ _ (subst (λ ls. gathered before longer all (lexemes_of tokens) (lexemes_of ls)) (sym is') (so_far.read.reads longer e))
      (subst (λ ls. EndsNowhere (mark 44) (lexemes_of ls)) (is ∙ sym is') no_comma);
}

-- the values behind commas that were read before a place
pub behind_so_far : (old now : List NameText) (before all : List TypedValue) (tokens here : List Token) (left : ℕ) → PartsSoFar old now before tokens all left → here ≡ drop (length tokens - left) tokens → (vs : List TypedValue) × each_behind_comma (typed now) vs (lexemes_of tokens) (lexemes_of here)
unfolding gathered
behind_so_far old now before all tokens here left so_far is =
    let g : gathered before now all (lexemes_of tokens) (lexemes_of (drop (length tokens - left) tokens)) = derived (gathered before) old now all _ _ so_far.read in
    (g.0, subst (λ ls. each_behind_comma (typed now) g.0 (lexemes_of tokens) (lexemes_of ls)) (sym is) g.2)
