-- Values as they are read: what each exit of a reader answers.
use Rattle.std.proofs.Common.{◌≡◌, ℕ, ◌<◌, ◌≤◌, Bool, List, [], ◌∷◌, ◌++◌, codes, length, drop, refl, sym, ap, ◌∙◌, subst, inl, inr, arith}
use Rattle.std.proofs.lemmas.List.{length-map}
use denote.Hole.Carrier.{hidden}
use Rattle.ll_tokens.specs.declared.kinds.Token.{Token}
use Rattle.ll_tokens.specs.Tokens.{Lexeme, lexeme_of, lexemes_of}
use Rattle.ll_tree.specs.declared.name.NameText.{NameText}
use Rattle.ll_tree.specs.declared.op.CastKind.{CastKind}
use Rattle.ll_tree.specs.declared.ty.LlType.{LlType}
use Rattle.ll_tree.specs.declared.value.TypedValue.{TypedValue}
use Rattle.ll_tree.specs.declared.value.Value.{Value, Vector, Array, Struct, Packed, GetElementPtr, Cast, items_hidden-the_row-TypedValue-0}
use Rattle.ll_tree.specs.declared.value.Value.TheBlock.{hidden-the_row-TypedValue-0, shape-the_row-TypedValue-1, hidden-the_row-TypedValue-1}
use Rattle.ll_parser.specs.declared.refusal.ReadError.{ReadError}
use Rattle.ll_parser.specs.declared.refusal.ReadError.TheVariants.{NoMemory, Refused}
use Rattle.ll_parser.specs.declared.refusal.Refusal.{Refusal}
use Rattle.ll_parser.specs.GrammarValues.{IsOfConstants, cast_word, count_of, if_word, typed, value, values}
use Rattle.ll_parser.specs.NameReading.{ReadsWith}
use Rattle.ll_parser.specs.Productions.{◌>>◌, word, mark, each_behind_comma}
use Rattle.ll_parser.specs.Reading.{EndsNowhere}
use Rattle.ll_parser.specs.Tables.{Extends}
use Rattle.ll_parser.proofs.EndFacts.{lexemes_drop}
use Rattle.ll_parser.proofs.TableFacts.{extends_same, extends_then}
use Rattle.ll_types.specs.declared.value_openings.ValueOpening.{ValueOpening}
use Rattle.ll_types.specs.declared.value_openings.ValueOpening.TheVariants as opening
use Rattle.ll_types.specs.declared.values.Conversion.{Conversion}
use Rattle.ll_types.specs.declared.values.Path.{Path}
use Rattle.ll_types.specs.SingleValues.{SingleRefused}
use Rattle.ll_types.specs.TypeParts.{ty_here}
use Rattle.ll_types.specs.TypeRefusals.{TypeFails, TypeRefused}
use Rattle.ll_types.specs.ValueOpenings.{opens_value}
use Rattle.ll_types.specs.ValueParts.{all_values, angle, conversion, grown, operands, parts, path, value_of}
use Rattle.ll_types.specs.ValueRefusals.{ValueFails, no_single, in_array, in_struct, in_vector, in_angle, in_path, in_cast, PartsFail, no_end, AngleFails, PathFails, OperandsFail, too_few, no_close, CastFails, behind_inbounds, Unless}
use Rattle.ll_types.proofs.MembersRead.{derived, mark_fewer, type_fewer}
use Rattle.ll_types.proofs.Tokens.{token_shortens}
use Rattle.ll_types.proofs.TypesRead.{reads_as, unexpected_at}
use Rattle.ll_types.proofs.ValueRows.{behind_to_row, count_is, values_to_row}

pub unless_told : (F G : Refusal → Type 0) (error told : ReadError) → told ≡ error → ((refusal : Refusal) → F refusal → G refusal) → Unless F error → Unless G told
unless_told F G NoMemory told same step f = subst (Unless G) (sym same) tt
unless_told F G (Refused refusal) told same step f = subst (Unless G) (sym same) (step refusal f)

pub unless_refused : (G : Refusal → Type 0) (refusal : Refusal) (told : ReadError) → told ≡ Refused refusal → G refusal → Unless G told
unless_refused G refusal told same g = subst (Unless G) (sym same) g

pub type_unless : (tokens : List Lexeme) (error : ReadError) → TypeRefused tokens error → Unless (TypeFails tokens) error
type_unless tokens NoMemory r = tt
type_unless tokens (Refused refusal) r = r.place

pub single_unless : (t : LlType) (tokens : List Lexeme) (error : ReadError) → SingleRefused t tokens error → Unless (λ refusal. SingleRefused t tokens (Refused refusal)) error
single_unless t tokens NoMemory r = tt
single_unless t tokens (Refused refusal) r = r

-- a type and its value
pub typed_read : (old mid new : List NameText) (t : LlType) (v : Value) (tokens behind rest : List Lexeme) → ReadsWith ty_here old mid t tokens behind → ReadsWith (value_of t) mid new v behind rest → ReadsWith typed old new (record { ty = t; value = v }) tokens rest
unfolding ◌>>◌
typed_read old mid new t v tokens behind rest r s = record {
  extends = extends_then old mid new r.extends s.extends;
  reads = λ longer e. (behind, (r.reads longer (extends_then mid new longer s.extends e)).0, s.reads longer e);
}

-- values between brackets
no_parts : (close : ℕ) (names : List NameText) (tokens rest : List Lexeme) → mark close tokens rest → parts close names [] tokens rest
unfolding ◌>>◌
no_parts close names tokens rest m = (tokens, refl, m)

pub no_parts_read : (close : ℕ) (names : List NameText) (vs : List TypedValue) (tokens rest : List Lexeme) → vs ≡ [] → mark close tokens rest → ReadsWith (parts close) names names vs tokens rest
no_parts_read close names vs tokens rest none m = record {
  extends = extends_same names;
  reads = λ longer e. subst (λ xs. parts close longer xs tokens rest) (sym none) (no_parts close longer tokens rest m);
}

grown_parts : (close : ℕ) (names : List NameText) (v : TypedValue) (all : List TypedValue) (tokens behind end rest : List Lexeme) → typed names v tokens behind → grown (v ∷ []) names all behind end → mark close end rest → parts close names all tokens rest
unfolding ◌>>◌
grown_parts close names v all tokens behind end rest d (vs, made, more, no_comma) m =
    subst (λ xs. parts close names xs tokens rest) (sym made) (end, (behind, d, more), m)

pub parts_read : (close : ℕ) (old mid new : List NameText) (v : TypedValue) (none before all : List TypedValue) (tokens behind end rest : List Lexeme) → ReadsWith typed old mid v tokens behind → none ≡ [] → before ≡ none ++ v ∷ [] → ReadsWith (grown before) mid new all behind end → mark close end rest → ReadsWith (parts close) old new all tokens rest
parts_read close old mid new v none before all tokens behind end rest r empty made s m =
    let first : before ≡ v ∷ [] = made ∙ ap (λ xs. xs ++ v ∷ []) empty in
    record {
      extends = extends_then old mid new r.extends s.extends;
      reads = λ longer e.
          grown_parts close longer v all tokens behind end rest (r.reads longer (extends_then mid new longer s.extends e)) (subst (λ xs. grown xs longer all behind end) first (s.reads longer e)) m;
    }

-- the values that were read behind commas
pub grown_behind : (mid new : List NameText) (before all : List TypedValue) (behind end : List Lexeme) → ReadsWith (grown before) mid new all behind end → (vs : List TypedValue) × (all ≡ before ++ vs) × each_behind_comma (typed new) vs behind end × EndsNowhere (mark 44) end
grown_behind mid new before all behind end s = derived (grown before) mid new all behind end s

pub no_parts_end : (close : ℕ) (old mid new : List NameText) (v : TypedValue) (before all : List TypedValue) (tokens behind : List Lexeme) (end : List Token) (refusal : Refusal) (told : ReadError) → told ≡ Refused refusal → ReadsWith typed old mid v tokens behind → ReadsWith (grown before) mid new all behind (lexemes_of end) → EndsNowhere (mark close) (lexemes_of end) → refusal ≡ record { rule = 3; left = length end } → Unless (PartsFail close tokens) told
no_parts_end close old mid new v before all tokens behind end refusal told same r s nowhere place =
    let g = grown_behind mid new before all behind (lexemes_of end) s in
    unless_refused (PartsFail close tokens) refusal told same
    (no_end mid new v g.0 behind (lexemes_of end) (derived typed old mid v tokens behind r) g.2 g.3 (unexpected_at (mark close) end refusal nowhere place))

-- behind a `<`
lanes : (names : List NameText) (vs : List TypedValue) (tokens rest : List Lexeme) → parts 62 names vs tokens rest → angle names (Vector vs) tokens rest
lanes names vs tokens rest d = (vs, inl (refl, d))

pub lanes_read : (old mid new : List NameText) (vs : List TypedValue) (tokens rest : List Lexeme) → Extends old mid → ReadsWith (parts 62) mid new vs tokens rest → ReadsWith angle old new (Vector vs) tokens rest
lanes_read old mid new vs tokens rest ext r = record {
  extends = extends_then old mid new ext r.extends;
  reads = λ longer e. lanes longer vs tokens rest (r.reads longer e);
}

packed : (names : List NameText) (vs : List TypedValue) (tokens inside behind rest : List Lexeme) → mark 123 tokens inside → parts 125 names vs inside behind → mark 62 behind rest → angle names (Packed vs) tokens rest
unfolding ◌>>◌
packed names vs tokens inside behind rest brace d end = (vs, inr (refl, (inside, brace, (behind, d, end))))

pub packed_read : (old mid new : List NameText) (vs : List TypedValue) (tokens inside behind rest : List Lexeme) → Extends old mid → mark 123 tokens inside → ReadsWith (parts 125) mid new vs inside behind → mark 62 behind rest → ReadsWith angle old new (Packed vs) tokens rest
packed_read old mid new vs tokens inside behind rest ext brace r end = record {
  extends = extends_then old mid new ext r.extends;
  reads = λ longer e. packed longer vs tokens inside behind rest brace (r.reads longer e) end;
}

-- `getelementptr`
few : (before all vs : List TypedValue) → before ≡ [] → all ≡ before ++ vs → all ≡ vs
few before all vs none made = made ∙ ap (λ xs. xs ++ vs) none

grown_operands : (names : List NameText) (before all : List TypedValue) (tokens end rest : List Lexeme) → before ≡ [] → 2 ≤ length all → grown before names all tokens end → mark 41 end rest → operands names all tokens rest
unfolding ◌>>◌
grown_operands names before all tokens end rest none two (vs, made, more, no_comma) m =
    let same : all ≡ vs = few before all vs none made in (end, (two, subst (λ xs. each_behind_comma (typed names) xs tokens end) (sym same) more), m)

pub operands_read : (old new : List NameText) (before all : List TypedValue) (tokens end rest : List Lexeme) → before ≡ [] → 2 ≤ length all → ReadsWith (grown before) old new all tokens end → mark 41 end rest → ReadsWith operands old new all tokens rest
operands_read old new before all tokens end rest none two r m =
    reads_as (grown before) operands all all old new tokens tokens end rest (λ names d. grown_operands names before all tokens end rest none two d m) r

pub operands_few : (old new : List NameText) (before all : List TypedValue) (tokens : List Lexeme) (end : List Token) (refusal : Refusal) → before ≡ [] → length all < 2 → ReadsWith (grown before) old new all tokens (lexemes_of end) → refusal ≡ record { rule = 3; left = length end } → OperandsFail tokens refusal
operands_few old new before all tokens end refusal none less r place =
    let g = grown_behind old new before all tokens (lexemes_of end) r in
    let same : length all ≡ length g.0 = ap length (few before all g.0 none g.1) in
    too_few new g.0 (lexemes_of end) (omega arith) g.2 (unexpected_at (mark 44) end refusal g.3 place)

pub operands_end : (old new : List NameText) (before all : List TypedValue) (tokens : List Lexeme) (end : List Token) (refusal : Refusal) → before ≡ [] → 2 ≤ length all → ReadsWith (grown before) old new all tokens (lexemes_of end) → EndsNowhere (mark 41) (lexemes_of end) → refusal ≡ record { rule = 3; left = length end } → OperandsFail tokens refusal
operands_end old new before all tokens end refusal none two r nowhere place =
    let g = grown_behind old new before all tokens (lexemes_of end) r in
    let same : length all ≡ length g.0 = ap length (few before all g.0 none g.1) in
    no_close new g.0 (lexemes_of end) (omega arith) g.2 g.3 (unexpected_at (mark 41) end refusal nowhere place)

path_parts : (names : List NameText) (p : Path) (tokens bracket inside behind rest : List Lexeme) → if_word (codes "inbounds") p.inbounds tokens bracket → mark 40 bracket inside → ty_here names p.through inside behind → operands names p.operands behind rest → path names p tokens rest
unfolding ◌>>◌
path_parts names p tokens bracket inside behind rest i b t d = (bracket, i, (inside, b, (behind, t, d)))

pub path_read : (old mid new : List NameText) (i : Bool) (t : LlType) (vs : List TypedValue) (tokens bracket inside behind rest : List Lexeme) → if_word (codes "inbounds") i tokens bracket → mark 40 bracket inside → ReadsWith ty_here old mid t inside behind → ReadsWith operands mid new vs behind rest → ReadsWith path old new (record { inbounds = i; through = t; operands = vs }) tokens rest
path_read old mid new i t vs tokens bracket inside behind rest w b r s = record {
  extends = extends_then old mid new r.extends s.extends;
  reads = λ longer e. path_parts longer _ tokens bracket inside behind rest w b (r.reads longer (extends_then mid new longer s.extends e)) (s.reads longer e);
}

inbounds_no_longer : (tokens bracket : List Lexeme) → behind_inbounds tokens bracket → length bracket ≤ length tokens
inbounds_no_longer tokens bracket (inl w) = let less : length bracket < length tokens = (token_shortens _ _ tokens bracket w).less in omega arith
inbounds_no_longer tokens bracket (inr (same, _)) = let e : length tokens ≡ length bracket = ap length same in omega arith

pub path_fewer : (old mid : List NameText) (t : LlType) (tokens bracket inside behind : List Token) → behind_inbounds (lexemes_of tokens) (lexemes_of bracket) → mark 40 (lexemes_of bracket) (lexemes_of inside) → ReadsWith ty_here old mid t (lexemes_of inside) (lexemes_of behind) → length behind < length tokens
path_fewer old mid t tokens bracket inside behind i b r =
    let a : length (lexemes_of bracket) ≤ length (lexemes_of tokens) = inbounds_no_longer _ _ i in
    let c : length inside < length bracket = mark_fewer 40 bracket inside b in
    let d : length behind < length inside = type_fewer old mid t inside behind r in
    omega (arith, length-map tokens lexeme_of, length-map bracket lexeme_of)

-- conversions
conversion_parts : (names : List NameText) (v : TypedValue) (t : LlType) (tokens inside behind target end rest : List Lexeme) → mark 40 tokens inside → typed names v inside behind → word (codes "to") behind target → ty_here names t target end → mark 41 end rest → conversion names (record { operand = v; to = t }) tokens rest
unfolding ◌>>◌
conversion_parts names v t tokens inside behind target end rest b d w u m = (inside, b, (behind, d, (target, w, (end, u, m))))

pub conversion_read : (old mid new : List NameText) (v : TypedValue) (t : LlType) (tokens inside behind target end rest : List Lexeme) → mark 40 tokens inside → ReadsWith typed old mid v inside behind → word (codes "to") behind target → ReadsWith ty_here mid new t target end → mark 41 end rest → ReadsWith conversion old new (record { operand = v; to = t }) tokens rest
conversion_read old mid new v t tokens inside behind target end rest b r w s m = record {
  extends = extends_then old mid new r.extends s.extends;
  reads = λ longer e. conversion_parts longer v t tokens inside behind target end rest b (r.reads longer (extends_then mid new longer s.extends e)) w (s.reads longer e) m;
}

-- a whole value, by its opening
parts_row : (names : List NameText) (vs : List TypedValue) (tokens rest : List Lexeme) → all_values names vs tokens rest → values names (hidden-the_row-TypedValue-0 vs) tokens rest
parts_row names vs tokens rest d =
    values_to_row names (hidden-the_row-TypedValue-0 vs) tokens rest (subst (λ xs. all_values names xs tokens rest) (sym (items_hidden-the_row-TypedValue-0 vs)) d)

array_value : (t : LlType) (names : List NameText) (vs : List TypedValue) (tokens inside rest : List Lexeme) → mark 91 tokens inside → parts 93 names vs inside rest → value names (Array vs) t tokens rest
unfolding ◌>>◌
array_value t names vs tokens inside rest m (e, d, close) = (inside, m, (e, parts_row names vs inside e d, close))

struct_value : (t : LlType) (names : List NameText) (vs : List TypedValue) (tokens inside rest : List Lexeme) → mark 123 tokens inside → parts 125 names vs inside rest → value names (Struct vs) t tokens rest
unfolding ◌>>◌
struct_value t names vs tokens inside rest m (e, d, close) = (inside, m, (e, parts_row names vs inside e d, close))

vector_value : (t : LlType) (names : List NameText) (vs : List TypedValue) (tokens inside rest : List Lexeme) → mark 60 tokens inside → parts 62 names vs inside rest → value names (Vector vs) t tokens rest
unfolding ◌>>◌
vector_value t names vs tokens inside rest m (e, d, close) = (inside, m, (e, parts_row names vs inside e d, close))

packed_value : (t : LlType) (names : List NameText) (vs : List TypedValue) (tokens behind rest : List Lexeme) → mark 60 tokens behind → (mark 123 >> parts 125 names vs >> mark 62) behind rest → value names (Packed vs) t tokens rest
unfolding ◌>>◌
packed_value t names vs tokens behind rest m (b, brace, (f, (e, d, close), end)) = (behind, m, (b, brace, (e, parts_row names vs b e d, (f, close, end))))

angle_values : (t : LlType) (names : List NameText) (v : Value) (tokens behind rest : List Lexeme) → mark 60 tokens behind → angle names v behind rest → value names v t tokens rest
angle_values t names v tokens behind rest m (vs, inl (is, d)) = subst (λ x. value names x t tokens rest) (sym is) (vector_value t names vs tokens behind rest m d)
angle_values t names v tokens behind rest m (vs, inr (is, d)) = subst (λ x. value names x t tokens rest) (sym is) (packed_value t names vs tokens behind rest m d)

at_least_two : (m n : ℕ) → m ≡ n → 2 ≤ n → 2 ≤ m
at_least_two m n e le = omega arith

path_value : (t : LlType) (names : List NameText) (p : Path) (tokens behind rest : List Lexeme) → word (codes "getelementptr") tokens behind → path names p behind rest → value names (GetElementPtr p.inbounds p.through p.operands) t tokens rest
unfolding ◌>>◌
path_value t names p tokens behind rest w (k, i, (l, b, (m, (u, none), (e, (two, d), close)))) =
    let count : count_of (hidden-the_row-TypedValue-0 p.operands) ≡ length p.operands = count_is (hidden-the_row-TypedValue-0 p.operands) ∙ ap length (items_hidden-the_row-TypedValue-0 p.operands) in
    (behind, w, (k, i, (l, b, (m, u, (e, (at_least_two _ _ count two, behind_to_row names (hidden-the_row-TypedValue-0 p.operands) m e (subst (λ xs. each_behind_comma (typed names) xs m e) (sym (items_hidden-the_row-TypedValue-0 p.operands)) d)), close)))))

cast_value : (t : LlType) (names : List NameText) (kind : CastKind) (c : Conversion) (tokens behind rest : List Lexeme) → IsOfConstants kind → word (cast_word kind) tokens behind → conversion names c behind rest → value names (Cast kind c.operand c.to) t tokens rest
unfolding ◌>>◌ shape-the_row-TypedValue-1 hidden-the_row-TypedValue-1 hidden
cast_value t names kind c tokens behind rest one w (k, b, (l, (m, u, v), (p, to_word, (q, (target, none), close)))) =
    (behind, (one, w), (k, b, (l, (m, u, (l, v, refl)), (p, to_word, (q, target, close)))))

at_opening : (o x : ValueOpening) (tokens inside : List Lexeme) → o ≡ x → opens_value o tokens inside → opens_value x tokens inside
at_opening o x tokens inside e d = subst (λ y. opens_value y tokens inside) e d

pub array_reads : (t : LlType) (o : ValueOpening) (old new : List NameText) (vs : List TypedValue) (tokens inside rest : List Lexeme) → o ≡ opening.Array → opens_value o tokens inside → ReadsWith (parts 93) old new vs inside rest → ReadsWith (value_of t) old new (Array vs) tokens rest
array_reads t o old new vs tokens inside rest is d r =
    reads_as (parts 93) (value_of t) vs (Array vs) old new tokens inside rest rest (λ names e. array_value t names vs tokens inside rest (at_opening o opening.Array tokens inside is d) e) r

pub array_stops : (t : LlType) (o : ValueOpening) (tokens inside : List Lexeme) (error told : ReadError) → told ≡ error → o ≡ opening.Array → opens_value o tokens inside → Unless (PartsFail 93 inside) error → Unless (ValueFails t tokens) told
array_stops t o tokens inside error told same is d f =
    unless_told (PartsFail 93 inside) (ValueFails t tokens) error told same (λ refusal x. in_array inside (at_opening o opening.Array tokens inside is d) x) f

pub struct_reads : (t : LlType) (o : ValueOpening) (old new : List NameText) (vs : List TypedValue) (tokens inside rest : List Lexeme) → o ≡ opening.Struct → opens_value o tokens inside → ReadsWith (parts 125) old new vs inside rest → ReadsWith (value_of t) old new (Struct vs) tokens rest
struct_reads t o old new vs tokens inside rest is d r =
    reads_as (parts 125) (value_of t) vs (Struct vs) old new tokens inside rest rest (λ names e. struct_value t names vs tokens inside rest (at_opening o opening.Struct tokens inside is d) e) r

pub struct_stops : (t : LlType) (o : ValueOpening) (tokens inside : List Lexeme) (error told : ReadError) → told ≡ error → o ≡ opening.Struct → opens_value o tokens inside → Unless (PartsFail 125 inside) error → Unless (ValueFails t tokens) told
struct_stops t o tokens inside error told same is d f =
    unless_told (PartsFail 125 inside) (ValueFails t tokens) error told same (λ refusal x. in_struct inside (at_opening o opening.Struct tokens inside is d) x) f

pub vector_reads : (t : LlType) (o : ValueOpening) (old new : List NameText) (vs : List TypedValue) (tokens inside rest : List Lexeme) → o ≡ opening.Vector → opens_value o tokens inside → ReadsWith (parts 62) old new vs inside rest → ReadsWith (value_of t) old new (Vector vs) tokens rest
vector_reads t o old new vs tokens inside rest is d r =
    let known : opens_value opening.Vector tokens inside = at_opening o opening.Vector tokens inside is d in
    reads_as (parts 62) (value_of t) vs (Vector vs) old new tokens inside rest rest (λ names e. vector_value t names vs tokens inside rest known.0 e) r

pub vector_stops : (t : LlType) (o : ValueOpening) (tokens inside : List Lexeme) (error told : ReadError) → told ≡ error → o ≡ opening.Vector → opens_value o tokens inside → Unless (PartsFail 62 inside) error → Unless (ValueFails t tokens) told
vector_stops t o tokens inside error told same is d f =
    let known : opens_value opening.Vector tokens inside = at_opening o opening.Vector tokens inside is d in
    unless_told (PartsFail 62 inside) (ValueFails t tokens) error told same (λ refusal x. in_vector inside known.0 known.1 x) f

pub angle_reads : (t : LlType) (o : ValueOpening) (old new : List NameText) (v : Value) (tokens behind rest : List Lexeme) → o ≡ opening.Angle → opens_value o tokens behind → ReadsWith angle old new v behind rest → ReadsWith (value_of t) old new v tokens rest
angle_reads t o old new v tokens behind rest is d r =
    let known : opens_value opening.Angle tokens behind = at_opening o opening.Angle tokens behind is d in
    reads_as angle (value_of t) v v old new tokens behind rest rest (λ names e. angle_values t names v tokens behind rest known.0 e) r

pub angle_stops : (t : LlType) (o : ValueOpening) (tokens behind inside : List Lexeme) (error told : ReadError) → told ≡ error → o ≡ opening.Angle → opens_value o tokens behind → mark 123 behind inside → Unless (AngleFails behind inside) error → Unless (ValueFails t tokens) told
angle_stops t o tokens behind inside error told same is d brace f =
    let known : opens_value opening.Angle tokens behind = at_opening o opening.Angle tokens behind is d in
    unless_told (AngleFails behind inside) (ValueFails t tokens) error told same (λ refusal x. in_angle behind inside known.0 brace x) f

-- what stands behind the brace of `<{`
pub brace_here : (o : ValueOpening) (tokens : List Lexeme) (behind inside : List Token) → o ≡ opening.Angle → opens_value o tokens (lexemes_of behind) → inside ≡ drop 1 behind → mark 123 (lexemes_of behind) (lexemes_of inside)
brace_here o tokens behind inside is d at =
    let known : opens_value opening.Angle tokens (lexemes_of behind) = at_opening o opening.Angle tokens (lexemes_of behind) is d in
    let same : known.1.0 ≡ lexemes_of inside = sym (ap (drop 1) known.1.1.1) ∙ sym (lexemes_drop 1 behind) ∙ ap lexemes_of (sym at) in
    subst (λ ls. mark 123 (lexemes_of behind) ls) same known.1.1

pub path_reads : (t : LlType) (o : ValueOpening) (old new : List NameText) (p : Path) (v : Value) (tokens behind rest : List Lexeme) → o ≡ opening.Path → opens_value o tokens behind → v ≡ GetElementPtr p.inbounds p.through p.operands → ReadsWith path old new p behind rest → ReadsWith (value_of t) old new v tokens rest
path_reads t o old new p v tokens behind rest is d made r =
    subst (λ x. ReadsWith (value_of t) old new x tokens rest) (sym made)
    (reads_as path (value_of t) p (GetElementPtr p.inbounds p.through p.operands) old new tokens behind rest rest (λ names e. path_value t names p tokens behind rest (at_opening o opening.Path tokens behind is d) e) r)

pub path_stops : (t : LlType) (o : ValueOpening) (tokens behind : List Lexeme) (error told : ReadError) → told ≡ error → o ≡ opening.Path → opens_value o tokens behind → Unless (PathFails behind) error → Unless (ValueFails t tokens) told
path_stops t o tokens behind error told same is d f =
    unless_told (PathFails behind) (ValueFails t tokens) error told same (λ refusal x. in_path behind (at_opening o opening.Path tokens behind is d) x) f

pub cast_reads : (t : LlType) (o : ValueOpening) (old new : List NameText) (kind : CastKind) (c : Conversion) (v : Value) (tokens behind rest : List Lexeme) → o ≡ opening.Cast kind → opens_value o tokens behind → v ≡ Cast kind c.operand c.to → ReadsWith conversion old new c behind rest → ReadsWith (value_of t) old new v tokens rest
cast_reads t o old new kind c v tokens behind rest is d made r =
    let known : opens_value (opening.Cast kind) tokens behind = at_opening o (opening.Cast kind) tokens behind is d in
    subst (λ x. ReadsWith (value_of t) old new x tokens rest) (sym made)
    (reads_as conversion (value_of t) c (Cast kind c.operand c.to) old new tokens behind rest rest (λ names e. cast_value t names kind c tokens behind rest known.0 known.1 e) r)

pub cast_stops : (t : LlType) (o : ValueOpening) (kind : CastKind) (tokens behind : List Lexeme) (error told : ReadError) → told ≡ error → o ≡ opening.Cast kind → opens_value o tokens behind → Unless (CastFails behind) error → Unless (ValueFails t tokens) told
cast_stops t o kind tokens behind error told same is d f =
    let known : opens_value (opening.Cast kind) tokens behind = at_opening o (opening.Cast kind) tokens behind is d in
    unless_told (CastFails behind) (ValueFails t tokens) error told same (λ refusal x. in_cast behind (kind, known.0, known.1) x) f

pub single_stops : (t : LlType) (o : ValueOpening) (tokens inside : List Lexeme) (error told : ReadError) → told ≡ error → o ≡ opening.Single → opens_value o tokens inside → SingleRefused t tokens error → Unless (ValueFails t tokens) told
single_stops t o tokens inside error told same is d f =
    let known : opens_value opening.Single tokens inside = at_opening o opening.Single tokens inside is d in
    unless_told (λ refusal. SingleRefused t tokens (Refused refusal)) (ValueFails t tokens) error told same (λ refusal x. no_single known.1 x) (single_unless t tokens error f)
