-- Types between commas, read one by one.
use Rattle.std.proofs.Common.{◌≡◌, ℕ, ◌-◌, ◌<◌, List, [], ◌∷◌, ◌++◌, length, drop, refl, sym, ap, ◌∙◌, subst, subst₂, arith}
use Rattle.std.proofs.lemmas.List.{length-map, length-drop}
use Rattle.ll_tokens.specs.declared.kinds.Token.{Token}
use Rattle.ll_tokens.specs.Tokens.{Lexeme, lexeme_of, lexemes_of}
use Rattle.ll_tree.specs.declared.name.NameText.{NameText}
use Rattle.ll_tree.specs.declared.ty.LlType.{LlType}
use Rattle.ll_parser.specs.NameReading.{ReadsWith}
use Rattle.ll_parser.specs.Productions.{Production, ◌>>◌, mark, each_behind_comma}
use Rattle.ll_parser.proofs.EndFacts.{Ends, ends_then, ends_drop, lexemes_drop, drop_ends}
use Rattle.ll_parser.proofs.TableFacts.{extends_same, extends_then}
use Rattle.ll_types.specs.TypeParts.{ty_here, some_types, members, next_type}
use Rattle.ll_types.proofs.OneType.{type_shortens}
use Rattle.ll_types.proofs.Tokens.{Shorter, Shortens, token_shortens, seq_shortens, shortens_ends}

-- what is read with a table is derived with that table
pub derived : {A : Type 0} (item : List NameText → A → Production) (old new : List NameText) (x : A) (tokens rest : List Lexeme) → ReadsWith item old new x tokens rest → item new x tokens rest
derived item old new x tokens rest r = r.reads new (extends_same new)

-- as many tokens as lexemes
pub fewer : (tokens rest : List Token) → length (lexemes_of rest) < length (lexemes_of tokens) → length rest < length tokens
fewer tokens rest less = omega (arith, length-map tokens lexeme_of, length-map rest lexeme_of)

pub mark_fewer : (code : ℕ) (tokens rest : List Token) → mark code (lexemes_of tokens) (lexemes_of rest) → length rest < length tokens
mark_fewer code tokens rest m = fewer tokens rest (token_shortens _ _ _ _ m).less

pub type_fewer : (old new : List NameText) (t : LlType) (tokens rest : List Token) → ReadsWith ty_here old new t (lexemes_of tokens) (lexemes_of rest) → length rest < length tokens
type_fewer old new t tokens rest r = fewer tokens rest (type_shortens new t _ _ (derived ty_here old new t _ _ r)).less

next_shortens : (names : List NameText) (t : LlType) → Shortens (next_type names t)
next_shortens names t = seq_shortens _ _ (token_shortens _ _) (shortens_ends _ (type_shortens names t))

-- behind some of the tokens, of which so many are left, there are these types and no others
pub record MembersSoFar (old now : List NameText) (tokens : List Token) (ms : List LlType) (left : ℕ) : Type 0 where
  pub in_range : left < length tokens
  pub read : ReadsWith some_types old now ms (lexemes_of tokens) (lexemes_of (drop (length tokens - left) tokens))

-- what is left is the end of the tokens that has this length
pub left_of : (tokens rest : List Token) (left : ℕ) → Ends (lexemes_of tokens) (lexemes_of rest) → left ≡ length rest → lexemes_of rest ≡ lexemes_of (drop (length tokens - left) tokens)
left_of tokens rest left ends count =
    let places : length (lexemes_of tokens) - length (lexemes_of rest) ≡ length tokens - left = omega (arith, length-map tokens lexeme_of, length-map rest lexeme_of, count) in
    sym (ends_drop _ _ ends) ∙ ap (λ n. drop n (lexemes_of tokens)) places ∙ sym (lexemes_drop _ tokens)

one_type : (names : List NameText) (t : LlType) (tokens rest : List Lexeme) → ty_here names t tokens rest → some_types names (t ∷ []) tokens rest
unfolding ◌>>◌
one_type names t tokens rest d = (rest, d, refl)

pub first_member : (old now : List NameText) (t : LlType) (ms none : List LlType) (tokens behind : List Token) (left : ℕ) → ReadsWith ty_here old now t (lexemes_of tokens) (lexemes_of behind) → ms ≡ none ++ t ∷ [] → none ≡ [] → left ≡ length behind → MembersSoFar old now tokens ms left
first_member old now t ms none tokens behind left r is empty count =
    let short : Shorter (lexemes_of tokens) (lexemes_of behind) = type_shortens now t _ _ (derived ty_here old now t _ _ r) in
    let less : length behind < length tokens = fewer tokens behind short.less in
    let same : lexemes_of behind ≡ lexemes_of (drop (length tokens - left) tokens) = left_of tokens behind left short.ends count in
    let all : ms ≡ t ∷ [] = is ∙ ap (λ xs. xs ++ t ∷ []) empty in
    record {
      in_range = omega arith;
      read = record {
        extends = r.extends;
        reads = λ longer e. subst₂ (λ xs ls. some_types longer xs (lexemes_of tokens) ls) (sym all) same (one_type longer t _ _ (r.reads longer e));
      };
    }

push_behind : (names : List NameText) (ts : List LlType) (t : LlType) (tokens middle rest : List Lexeme) → each_behind_comma (ty_here names) ts tokens middle → next_type names t middle rest → each_behind_comma (ty_here names) (ts ++ t ∷ []) tokens rest
unfolding ◌>>◌
push_behind names [] t tokens middle rest same (a, comma, d) = (a, subst (λ ls. mark 44 ls a) (sym same) comma, (rest, d, refl))
push_behind names (x ∷ xs) t tokens middle rest (a, comma, (b, d, more)) next = (a, comma, (b, d, push_behind names xs t b middle rest more next))

push_type : (names : List NameText) (ts : List LlType) (t : LlType) (tokens middle rest : List Lexeme) → some_types names ts tokens middle → next_type names t middle rest → some_types names (ts ++ t ∷ []) tokens rest
unfolding ◌>>◌
push_type names [] t tokens middle rest d next = absurd d
push_type names (x ∷ xs) t tokens middle rest (b, d, more) next = (b, d, push_behind names xs t b middle rest more next)

pub next_fewer : (old now next : List NameText) (t : LlType) (ms : List LlType) (tokens here behind : List Token) (left : ℕ) → MembersSoFar old now tokens ms left → here ≡ drop (length tokens - left) tokens → ReadsWith next_type now next t (lexemes_of here) (lexemes_of behind) → length behind < left
next_fewer old now next t ms tokens here behind left so_far is r =
    let less : length behind < length here = fewer here behind (next_shortens next t _ _ (derived next_type now next t _ _ r)).less in
    let whole : length here ≡ length tokens - (length tokens - left) = ap length is ∙ length-drop (length tokens - left) tokens in
    let bound : left < length tokens = so_far.in_range in
    omega arith

pub here_length : (old now : List NameText) (ms : List LlType) (tokens here : List Token) (left : ℕ) → MembersSoFar old now tokens ms left → here ≡ drop (length tokens - left) tokens → length here < length tokens
here_length old now ms tokens here left so_far is =
    let whole : length here ≡ length tokens - (length tokens - left) = ap length is ∙ length-drop (length tokens - left) tokens in
    let bound : left < length tokens = so_far.in_range in
    omega arith

pub one_member_more : (old now next : List NameText) (t : LlType) (ms all : List LlType) (tokens here behind : List Token) (left count : ℕ) → MembersSoFar old now tokens ms left → here ≡ drop (length tokens - left) tokens → ReadsWith next_type now next t (lexemes_of here) (lexemes_of behind) → all ≡ ms ++ t ∷ [] → count ≡ length behind → MembersSoFar old next tokens all count
one_member_more old now next t ms all tokens here behind left count so_far is r grown counted =
    let less : length behind < left = next_fewer old now next t ms tokens here behind left so_far is r in
    let bound : left < length tokens = so_far.in_range in
    let short : Shorter (lexemes_of here) (lexemes_of behind) = next_shortens next t _ _ (derived next_type now next t _ _ r) in
    let here_ends : Ends (lexemes_of tokens) (lexemes_of here) = subst (Ends (lexemes_of tokens)) (sym (ap lexemes_of is ∙ lexemes_drop _ tokens)) (drop_ends _ (lexemes_of tokens)) in
    let end : Ends (lexemes_of tokens) (lexemes_of behind) = ends_then _ _ _ here_ends short.ends in
    let same : lexemes_of behind ≡ lexemes_of (drop (length tokens - count) tokens) = left_of tokens behind count end counted in
    record {
      in_range = omega arith;
      read = record {
        extends = extends_then old now next so_far.read.extends r.extends;
        reads = λ longer e.
            subst₂ (λ xs ls. some_types longer xs (lexemes_of tokens) ls) (sym grown) same
            (push_type longer ms t _ _ _ (subst (λ ls. some_types longer ms (lexemes_of tokens) (lexemes_of ls)) (sym is) (so_far.read.reads longer (extends_then now next longer r.extends e))) (r.reads longer e));
      };
    }

-- what was read so far, before tokens that are known
pub read_so_far : (old now : List NameText) (ms : List LlType) (tokens here : List Token) (left : ℕ) → MembersSoFar old now tokens ms left → here ≡ drop (length tokens - left) tokens → ReadsWith some_types old now ms (lexemes_of tokens) (lexemes_of here)
read_so_far old now ms tokens here left so_far is =
    subst (λ ls. ReadsWith some_types old now ms (lexemes_of tokens) (lexemes_of ls)) (sym is) so_far.read

closed : (names : List NameText) (ms : List LlType) (tokens end rest : List Lexeme) → some_types names ms tokens end → mark 125 end rest → members names ms tokens rest
unfolding ◌>>◌
closed names [] tokens end rest d close = absurd d
closed names (t ∷ ts) tokens end rest d close = (end, d, close)

pub members_read : (old now : List NameText) (ms : List LlType) (tokens end rest : List Lexeme) → ReadsWith some_types old now ms tokens end → mark 125 end rest → ReadsWith members old now ms tokens rest
members_read old now ms tokens end rest r close = record {
  extends = r.extends;
  reads = λ longer e. closed longer ms tokens end rest (r.reads longer e) close;
}
