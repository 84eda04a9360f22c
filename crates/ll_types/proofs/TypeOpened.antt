-- What stands behind the opening of a type.
use Rattle.std.proofs.Common.{◌≡◌, ℕ, List, [], ◌∷◌, codes, refl, sym, ◌∙◌, subst, arith}
use mathlib.Core.Former.{Count}
use Rattle.ll_tokens.specs.declared.kinds.TokenKind.TheVariants.{Word, Punct, Int as IntToken, Local as LocalToken}
use Rattle.ll_tokens.specs.Tokens.{Lexeme}
use Rattle.ll_tree.specs.declared.name.Name.{Name}
use Rattle.ll_tree.specs.declared.name.NameText.{NameText}
use Rattle.ll_tree.specs.declared.ty.LlType.{LlType}
use Rattle.ll_tree.specs.declared.ty.TypeBase.{TypeBase, Void, Int, Half, Float, Double, Named as NamedBase, Array', Vector', Struct', Packed', Row_of-LlType, end_of-LlType, more_of-LlType}
use Rattle.ll_parser.specs.GrammarTypes.{number, ty, type_base, type_name}
use Rattle.ll_parser.specs.Productions.{◌>>◌, token, word, mark, listed}
use Rattle.ll_parser.specs.WordTypes.{IsOneWord}
use Rattle.ll_parser.proofs.SpaceFacts.{mark_leaves_one}
use Rattle.ll_types.specs.declared.openings.TypeOpening.{TypeOpening}
use Rattle.ll_types.specs.declared.openings.TypeOpening.TheVariants.{Array, Vector, Struct, Packed, Named, Plain}
use Rattle.ll_types.specs.declared.types.Counted.{Counted}
use Rattle.ll_types.specs.TypeOpenings.{OpensPlain, opens}
use Rattle.ll_types.specs.TypeParts.{counted, members}
use Rattle.ll_types.proofs.Tokens.{kinds_apart, marks_apart, mark_no_pointer}
use Rattle.ll_types.proofs.TypeLists.{all_here}
use Rattle.ll_types.proofs.TypeRows.{types_to_list}

-- what may stand behind an opening
abbrev pub behind : TypeOpening → List NameText → List Lexeme → List Lexeme → Type 0
behind Array names tokens rest = (c : Counted) × counted 93 names c tokens rest
behind Vector names tokens rest = (c : Counted) × counted 62 names c tokens rest
behind Struct names tokens rest = (ms : List LlType) × members names ms tokens rest
behind Packed names tokens rest = (ms : List LlType) × (members names ms >> mark 62) tokens rest
behind Named names tokens rest = (name : Name) × type_name names name tokens rest
behind Plain names tokens rest = (base : TypeBase) × IsOneWord base × type_base names base tokens rest

pub record Opened (names : List NameText) (tokens rest : List Lexeme) : Type 0 where
  pub opening : TypeOpening
  pub inside : List Lexeme
  pub opened : opens opening tokens inside
  pub goes_on : behind opening names inside rest

-- a token that isn't one of those that bracket a type
pub word_plain : (test : Lexeme → Type 0) (tokens rest : List Lexeme) → token Word test tokens rest → OpensPlain tokens
word_plain test tokens rest w = record {
  no_array = λ b m. kinds_apart Word Punct _ _ tokens rest b (λ e. cc) w m;
  no_angle = λ b m. kinds_apart Word Punct _ _ tokens rest b (λ e. cc) w m;
  no_brace = λ b m. kinds_apart Word Punct _ _ tokens rest b (λ e. cc) w m;
  no_name = λ b m. kinds_apart Word LocalToken _ _ tokens rest b (λ e. cc) w m;
}

-- a part with its count
pub part_counted : (close : ℕ) (names : List NameText) (count : ℕ) {k : Count} (row : Row_of-LlType k) (base : TypeBase) (pointers : List ℕ) (tokens a b c rest : List Lexeme) → (close ≡ 42 → ⊥) → number count tokens a → word (codes "x") a b → listed (ty names) (record { base = base; pointers = pointers } ∷ []) b c → mark close c rest → counted close names (record { count = count; part = record { base = base; pointers = pointers } }) tokens rest
unfolding ◌>>◌
part_counted close names count row base pointers tokens a b c rest differ n x (m, d, same) end =
    let close_here : mark close m rest = subst (λ ls. mark close ls rest) (sym same) end in
    (a, n, (b, x, (m, (d, mark_no_pointer close m rest differ close_here), close_here)))

pub opened_type : (names : List NameText) (base : TypeBase) (tokens rest : List Lexeme) → type_base names base tokens rest → Opened names tokens rest
unfolding ◌>>◌
opened_type names Void tokens rest d = record { opening = Plain; inside = tokens; opened = (refl, word_plain _ tokens rest d); goes_on = (Void, tt, d) }
opened_type names (Int bits) tokens rest d = record { opening = Plain; inside = tokens; opened = (refl, word_plain _ tokens rest d); goes_on = (Int bits, tt, d) }
opened_type names Half tokens rest d = record { opening = Plain; inside = tokens; opened = (refl, word_plain _ tokens rest d); goes_on = (Half, tt, d) }
opened_type names Float tokens rest d = record { opening = Plain; inside = tokens; opened = (refl, word_plain _ tokens rest d); goes_on = (Float, tt, d) }
opened_type names Double tokens rest d = record { opening = Plain; inside = tokens; opened = (refl, word_plain _ tokens rest d); goes_on = (Double, tt, d) }
opened_type names (NamedBase name) tokens rest (l, is, kind, spelled) =
    record { opening = Named; inside = tokens; opened = (refl, (rest, (l, is, kind, tt))); goes_on = (name, (l, is, kind, spelled)) }
opened_type names (Array' count shape (more_of-LlType base pointers end_of-LlType)) tokens rest (a, bracket, (b, n, (c, x, (e, part, close)))) =
    record { opening = Array; inside = a; opened = bracket; goes_on = (_, part_counted 93 names count end_of-LlType base pointers a b c e rest (λ q. omega arith) n x (types_to_list names (more_of-LlType base pointers end_of-LlType) c e part) close) }
opened_type names (Vector' count shape (more_of-LlType base pointers end_of-LlType)) tokens rest (a, bracket, (b, n, (c, x, (e, part, close)))) =
    record { opening = Vector; inside = a; opened = (bracket, λ r m. kinds_apart IntToken Punct _ _ a b r (λ q. cc) n m); goes_on = (_, part_counted 62 names count end_of-LlType base pointers a b c e rest (λ q. omega arith) n x (types_to_list names (more_of-LlType base pointers end_of-LlType) c e part) close) }
opened_type names (Struct' shape row) tokens rest (a, bracket, (e, parts, close)) =
    record { opening = Struct; inside = a; opened = bracket; goes_on = (_, (e, all_here names _ 125 a e rest (λ q. omega arith) (types_to_list names row a e parts) close, close)) }
opened_type names (Packed' shape row) tokens rest (a, angle, (b, bracket, (e, parts, (f, close, end)))) =
    record { opening = Packed; inside = b; opened = (a, angle, bracket); goes_on = (_, (f, (e, all_here names _ 125 b e f (λ q. omega arith) (types_to_list names row b e parts) close, close), end)) }

array_no_vector : (tokens a b : List Lexeme) → opens Array tokens a → opens Vector tokens b → ⊥
unfolding ◌>>◌
array_no_vector tokens a b m (k, no_brace) = marks_apart 91 60 tokens _ _ (λ e. omega arith) m k

array_no_struct : (tokens a b : List Lexeme) → opens Array tokens a → opens Struct tokens b → ⊥
unfolding ◌>>◌
array_no_struct tokens a b m k = marks_apart 91 123 tokens _ _ (λ e. omega arith) m k

array_no_packed : (tokens a b : List Lexeme) → opens Array tokens a → opens Packed tokens b → ⊥
unfolding ◌>>◌
array_no_packed tokens a b m (p', k, q') = marks_apart 91 60 tokens _ _ (λ e. omega arith) m k

array_no_named : (tokens a b : List Lexeme) → opens Array tokens a → opens Named tokens b → ⊥
unfolding ◌>>◌
array_no_named tokens a b m (same, (behind, name)) = kinds_apart Punct LocalToken _ _ tokens _ behind (λ e. cc) m name

array_no_plain : (tokens a b : List Lexeme) → opens Array tokens a → opens Plain tokens b → ⊥
unfolding ◌>>◌
array_no_plain tokens a b m (same, plain) = plain.no_array _ m

vector_no_struct : (tokens a b : List Lexeme) → opens Vector tokens a → opens Struct tokens b → ⊥
unfolding ◌>>◌
vector_no_struct tokens a b (m, no_brace) k = marks_apart 60 123 tokens _ _ (λ e. omega arith) m k

vector_no_packed : (tokens a b : List Lexeme) → opens Vector tokens a → opens Packed tokens b → ⊥
unfolding ◌>>◌
vector_no_packed tokens a b (m, no_brace) (p, m', brace) = no_brace b (subst (λ ls. mark 123 ls b) (mark_leaves_one 60 tokens p a m' m) brace)

vector_no_named : (tokens a b : List Lexeme) → opens Vector tokens a → opens Named tokens b → ⊥
unfolding ◌>>◌
vector_no_named tokens a b (m, no_brace) (same, (behind, name)) = kinds_apart Punct LocalToken _ _ tokens _ behind (λ e. cc) m name

vector_no_plain : (tokens a b : List Lexeme) → opens Vector tokens a → opens Plain tokens b → ⊥
unfolding ◌>>◌
vector_no_plain tokens a b (m, no_brace) (same, plain) = plain.no_angle _ m

struct_no_packed : (tokens a b : List Lexeme) → opens Struct tokens a → opens Packed tokens b → ⊥
unfolding ◌>>◌
struct_no_packed tokens a b m (p', k, q') = marks_apart 123 60 tokens _ _ (λ e. omega arith) m k

struct_no_named : (tokens a b : List Lexeme) → opens Struct tokens a → opens Named tokens b → ⊥
unfolding ◌>>◌
struct_no_named tokens a b m (same, (behind, name)) = kinds_apart Punct LocalToken _ _ tokens _ behind (λ e. cc) m name

struct_no_plain : (tokens a b : List Lexeme) → opens Struct tokens a → opens Plain tokens b → ⊥
unfolding ◌>>◌
struct_no_plain tokens a b m (same, plain) = plain.no_brace _ m

packed_no_named : (tokens a b : List Lexeme) → opens Packed tokens a → opens Named tokens b → ⊥
unfolding ◌>>◌
packed_no_named tokens a b (p, m, q) (same, (behind, name)) = kinds_apart Punct LocalToken _ _ tokens _ behind (λ e. cc) m name

packed_no_plain : (tokens a b : List Lexeme) → opens Packed tokens a → opens Plain tokens b → ⊥
unfolding ◌>>◌
packed_no_plain tokens a b (p, m, q) (same, plain) = plain.no_angle _ m

named_no_plain : (tokens a b : List Lexeme) → opens Named tokens a → opens Plain tokens b → ⊥
unfolding ◌>>◌
named_no_plain tokens a b (same, (behind, name)) (same', plain) = plain.no_name behind name

-- tokens are opened in one way
pub opens_one : (o u : TypeOpening) (tokens a b : List Lexeme) → opens o tokens a → opens u tokens b → (o ≡ u) × (a ≡ b)
unfolding ◌>>◌
opens_one Array Array tokens a b d e = (refl, mark_leaves_one 91 tokens a b d e)
opens_one Vector Vector tokens a b d e = (refl, mark_leaves_one 60 tokens a b d.0 e.0)
opens_one Struct Struct tokens a b d e = (refl, mark_leaves_one 123 tokens a b d e)
opens_one Packed Packed tokens a b (p, m, q) (p', m', q') =
    (refl, mark_leaves_one 123 p a b q (subst (λ ls. mark 123 ls b) (mark_leaves_one 60 tokens p' p m' m) q'))
opens_one Named Named tokens a b d e = (refl, sym d.0 ∙ e.0)
opens_one Plain Plain tokens a b d e = (refl, sym d.0 ∙ e.0)
opens_one Array Vector tokens a b d e = absurd (array_no_vector tokens a b d e)
opens_one Array Struct tokens a b d e = absurd (array_no_struct tokens a b d e)
opens_one Array Packed tokens a b d e = absurd (array_no_packed tokens a b d e)
opens_one Array Named tokens a b d e = absurd (array_no_named tokens a b d e)
opens_one Array Plain tokens a b d e = absurd (array_no_plain tokens a b d e)
opens_one Vector Array tokens a b d e = absurd (array_no_vector tokens b a e d)
opens_one Vector Struct tokens a b d e = absurd (vector_no_struct tokens a b d e)
opens_one Vector Packed tokens a b d e = absurd (vector_no_packed tokens a b d e)
opens_one Vector Named tokens a b d e = absurd (vector_no_named tokens a b d e)
opens_one Vector Plain tokens a b d e = absurd (vector_no_plain tokens a b d e)
opens_one Struct Array tokens a b d e = absurd (array_no_struct tokens b a e d)
opens_one Struct Vector tokens a b d e = absurd (vector_no_struct tokens b a e d)
opens_one Struct Packed tokens a b d e = absurd (struct_no_packed tokens a b d e)
opens_one Struct Named tokens a b d e = absurd (struct_no_named tokens a b d e)
opens_one Struct Plain tokens a b d e = absurd (struct_no_plain tokens a b d e)
opens_one Packed Array tokens a b d e = absurd (array_no_packed tokens b a e d)
opens_one Packed Vector tokens a b d e = absurd (vector_no_packed tokens b a e d)
opens_one Packed Struct tokens a b d e = absurd (struct_no_packed tokens b a e d)
opens_one Packed Named tokens a b d e = absurd (packed_no_named tokens a b d e)
opens_one Packed Plain tokens a b d e = absurd (packed_no_plain tokens a b d e)
opens_one Named Array tokens a b d e = absurd (array_no_named tokens b a e d)
opens_one Named Vector tokens a b d e = absurd (vector_no_named tokens b a e d)
opens_one Named Struct tokens a b d e = absurd (struct_no_named tokens b a e d)
opens_one Named Packed tokens a b d e = absurd (packed_no_named tokens b a e d)
opens_one Named Plain tokens a b d e = absurd (named_no_plain tokens a b d e)
opens_one Plain Array tokens a b d e = absurd (array_no_plain tokens b a e d)
opens_one Plain Vector tokens a b d e = absurd (vector_no_plain tokens b a e d)
opens_one Plain Struct tokens a b d e = absurd (struct_no_plain tokens b a e d)
opens_one Plain Packed tokens a b d e = absurd (packed_no_plain tokens b a e d)
opens_one Plain Named tokens a b d e = absurd (named_no_plain tokens b a e d)

-- what stands behind an opening that is known
pub behind_known : (o : TypeOpening) (names : List NameText) (base : TypeBase) (tokens inside rest : List Lexeme) → opens o tokens inside → type_base names base tokens rest → behind o names inside rest
behind_known o names base tokens inside rest known d =
    let found : Opened names tokens rest = opened_type names base tokens rest d in
    let same : (found.opening ≡ o) × (found.inside ≡ inside) = opens_one found.opening o tokens found.inside inside found.opened known in
    subst (λ x. behind x names inside rest) same.0 (subst (λ ls. behind found.opening names ls rest) same.1 found.goes_on)

-- no type begins with another mark than an opening one
pub type_no_mark : (c : ℕ) (names : List NameText) (base : TypeBase) (tokens a b : List Lexeme) → (91 ≡ c → ⊥) → (60 ≡ c → ⊥) → (123 ≡ c → ⊥) → type_base names base tokens a → mark c tokens b → ⊥
unfolding ◌>>◌
type_no_mark c names base tokens a b no91 no60 no123 d m =
    let found : Opened names tokens a = opened_type names base tokens a d in
    by found.opening found.inside found.opened found.goes_on
  where
    plain : (p : TypeBase) → IsOneWord p → type_base names p tokens a → ⊥
    plain Void one w = kinds_apart Word Punct _ _ tokens a b (λ e. cc) w m
    plain (Int bits) one w = kinds_apart Word Punct _ _ tokens a b (λ e. cc) w m
    plain Half one w = kinds_apart Word Punct _ _ tokens a b (λ e. cc) w m
    plain Float one w = kinds_apart Word Punct _ _ tokens a b (λ e. cc) w m
    plain Double one w = kinds_apart Word Punct _ _ tokens a b (λ e. cc) w m
    plain (NamedBase name) one w = absurd one
    plain (Array' count shape row) one w = absurd one
    plain (Vector' count shape row) one w = absurd one
    plain (Struct' shape row) one w = absurd one
    plain (Packed' shape row) one w = absurd one

    by : (o : TypeOpening) (inside : List Lexeme) → opens o tokens inside → behind o names inside a → ⊥
    by Array inside bracket goes_on = marks_apart 91 c tokens inside b no91 bracket m
    by Vector inside bracket goes_on = marks_apart 60 c tokens inside b no60 bracket.0 m
    by Struct inside bracket goes_on = marks_apart 123 c tokens inside b no123 bracket m
    by Packed inside (p, angle, brace) goes_on = marks_apart 60 c tokens p b no60 angle m
    by Named inside (same, (r, name)) goes_on = kinds_apart LocalToken Punct _ _ tokens r b (λ e. cc) name m
    by Plain inside (same, none) (p, one, w) = plain p one (subst (λ ls. type_base names p ls a) (sym same) w)
