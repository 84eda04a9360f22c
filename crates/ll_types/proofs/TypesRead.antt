-- Types as they are read: what each exit of a reader answers.
use Rattle.std.proofs.Common.{◌≡◌, ℕ, ◌<◌, List, [], codes, length, drop, refl, sym, ◌∙◌, ◌-◌, subst}
use Rattle.std.proofs.lemmas.List.{length-map}
use denote.Hole.Carrier.{hidden}
use Rattle.ll_tokens.specs.declared.kinds.Token.{Token}
use Rattle.ll_tokens.specs.declared.kinds.TokenKind.TheVariants.{Local as LocalToken}
use Rattle.ll_tokens.specs.Tokens.{Lexeme, lexeme_of, lexemes_of}
use Rattle.ll_tree.specs.declared.name.NameKind.TheVariants.{Struct as StructName}
use Rattle.ll_tree.specs.declared.name.NameText.{NameText}
use Rattle.ll_tree.specs.declared.ty.LlType.{LlType}
use Rattle.ll_tree.specs.declared.ty.TypeBase.{TypeBase, Array, Vector, Struct, Packed, items_hidden-the_row-LlType-1}
use Rattle.ll_tree.specs.declared.ty.TypeBase.TheBlock.{hidden-the_row-LlType-0, shape-the_row-LlType-0, hidden-the_row-LlType-1}
use Rattle.ll_parser.specs.declared.refusal.ReadError.{ReadError}
use Rattle.ll_parser.specs.declared.refusal.ReadError.TheVariants.{NoMemory, Refused}
use Rattle.ll_parser.specs.declared.refusal.Refusal.{Refusal}
use Rattle.ll_parser.specs.GrammarTypes.{number, ty, type_base}
use Rattle.ll_parser.specs.NameReading.{ReadsWith, NameFails}
use Rattle.ll_parser.specs.Pointers.{PointersFail, pointers_here}
use Rattle.ll_parser.specs.Productions.{Production, ◌>>◌, word, mark, listed}
use Rattle.ll_parser.specs.Reading.{EndsNowhere, DerivesNone, number_rule}
use Rattle.ll_parser.specs.Spaces.{IsUnexpected}
use Rattle.ll_parser.specs.WordTypes.{NoWordType}
use Rattle.ll_parser.proofs.TableFacts.{extends_same}
use Rattle.ll_types.specs.declared.openings.TypeOpening.{TypeOpening}
use Rattle.ll_types.specs.declared.openings.TypeOpening.TheVariants as opening
use Rattle.ll_types.specs.declared.types.Counted.{Counted}
use Rattle.ll_types.specs.TypeOpenings.{opens}
use Rattle.ll_types.specs.TypeParts.{ty_here, counted, some_types, members, next_type}
use Rattle.ll_types.specs.TypeRefusals.{no_type, no_name, in_array, in_vector, in_struct, in_packed, behind_packed, in_pointers, no_count, no_times, no_part, no_close, no_first, no_next, no_end, TypeStops, CountedStops, MembersStop, NextStops}
use Rattle.ll_types.proofs.MembersRead.{derived, fewer, members_read, read_so_far, MembersSoFar}
use Rattle.ll_types.proofs.Tokens.{Shortens, token_shortens, token_end, seq_shortens}
use Rattle.ll_types.proofs.TypeLists.{forget_all}
use Rattle.ll_types.proofs.TypeRows.{types_to_row}

pub reads_as : {B C : Type 0} (q : List NameText → B → Production) (r : List NameText → C → Production) (b : B) (c : C) (old new : List NameText) (tokens middle rest end : List Lexeme) → ((names : List NameText) → q names b middle rest → r names c tokens end) → ReadsWith q old new b middle rest → ReadsWith r old new c tokens end
reads_as q r b c old new tokens middle rest end step x = record { extends = x.extends; reads = λ longer e. step longer (x.reads longer e) }

-- the refusal of tokens that a production doesn't begin
pub unexpected_at : (p : Production) (tokens : List Token) (refusal : Refusal) → EndsNowhere p (lexemes_of tokens) → refusal ≡ record { rule = 3; left = length tokens } → IsUnexpected p (lexemes_of tokens) refusal
unexpected_at p tokens refusal nowhere place = (nowhere, subst (λ (n : ℕ). refusal ≡ record { rule = 3; left = n }) (sym (length-map tokens lexeme_of)) place)

-- arrays and vectors
array_base : (names : List NameText) (c : Counted) (tokens inside rest : List Lexeme) → mark 91 tokens inside → counted 93 names c inside rest → type_base names (Array c.count c.part) tokens rest
unfolding ◌>>◌ shape-the_row-LlType-0 hidden-the_row-LlType-0 hidden
array_base names c tokens inside rest bracket (a, n, (b, x, (e, ((m, base, ps), none), close))) =
    (inside, bracket, (a, n, (b, x, (e, (m, base, (e, ps, refl)), close))))

vector_base : (names : List NameText) (c : Counted) (tokens inside rest : List Lexeme) → mark 60 tokens inside → counted 62 names c inside rest → type_base names (Vector c.count c.part) tokens rest
unfolding ◌>>◌ shape-the_row-LlType-0 hidden-the_row-LlType-0 hidden
vector_base names c tokens inside rest bracket (a, n, (b, x, (e, ((m, base, ps), none), close))) =
    (inside, bracket, (a, n, (b, x, (e, (m, base, (e, ps, refl)), close))))

pub array_reads : (o : TypeOpening) (old new : List NameText) (c : Counted) (base : TypeBase) (tokens inside rest : List Lexeme) → o ≡ opening.Array → opens o tokens inside → base ≡ Array c.count c.part → ReadsWith (counted 93) old new c inside rest → ReadsWith type_base old new base tokens rest
array_reads o old new c base tokens inside rest is bracket made r =
    subst (λ t. ReadsWith type_base old new t tokens rest) (sym made)
    (reads_as (counted 93) type_base c _ old new tokens inside rest rest (λ names d. array_base names c tokens inside rest (subst (λ x. opens x tokens inside) is bracket) d) r)

pub vector_reads : (o : TypeOpening) (old new : List NameText) (c : Counted) (base : TypeBase) (tokens inside rest : List Lexeme) → o ≡ opening.Vector → opens o tokens inside → base ≡ Vector c.count c.part → ReadsWith (counted 62) old new c inside rest → ReadsWith type_base old new base tokens rest
vector_reads o old new c base tokens inside rest is bracket made r =
    let known : opens opening.Vector tokens inside = subst (λ x. opens x tokens inside) is bracket in
    subst (λ t. ReadsWith type_base old new t tokens rest) (sym made)
    (reads_as (counted 62) type_base c _ old new tokens inside rest rest (λ names d. vector_base names c tokens inside rest known.0 d) r)

-- structs
struct_base : (names : List NameText) (ms : List LlType) (tokens inside rest : List Lexeme) → mark 123 tokens inside → members names ms inside rest → type_base names (Struct ms) tokens rest
unfolding ◌>>◌
struct_base names ms tokens inside rest bracket (e, all, close) =
    (inside, bracket, (e, types_to_row names (hidden-the_row-LlType-1 ms) inside e (subst (λ xs. listed (ty names) xs inside e) (sym (items_hidden-the_row-LlType-1 ms)) (forget_all names ms inside e all)), close))

packed_base : (names : List NameText) (ms : List LlType) (tokens inside behind rest : List Lexeme) → (mark 60 >> mark 123) tokens inside → members names ms inside behind → mark 62 behind rest → type_base names (Packed ms) tokens rest
unfolding ◌>>◌
packed_base names ms tokens inside behind rest (p, angle, bracket) (e, all, close) end =
    (p, angle, (inside, bracket, (e, types_to_row names (hidden-the_row-LlType-1 ms) inside e (subst (λ xs. listed (ty names) xs inside e) (sym (items_hidden-the_row-LlType-1 ms)) (forget_all names ms inside e all)), (behind, close, end))))

pub struct_reads : (o : TypeOpening) (old new : List NameText) (ms : List LlType) (tokens inside rest : List Lexeme) → o ≡ opening.Struct → opens o tokens inside → ReadsWith members old new ms inside rest → ReadsWith type_base old new (Struct ms) tokens rest
struct_reads o old new ms tokens inside rest is bracket r =
    reads_as members type_base ms _ old new tokens inside rest rest (λ names d. struct_base names ms tokens inside rest (subst (λ x. opens x tokens inside) is bracket) d) r

pub packed_reads : (o : TypeOpening) (old new : List NameText) (ms : List LlType) (tokens inside behind rest : List Lexeme) → o ≡ opening.Packed → opens o tokens inside → ReadsWith members old new ms inside behind → mark 62 behind rest → ReadsWith type_base old new (Packed ms) tokens rest
packed_reads o old new ms tokens inside behind rest is bracket r end =
    reads_as members type_base ms _ old new tokens inside behind rest (λ names d. packed_base names ms tokens inside behind rest (subst (λ x. opens x tokens inside) is bracket) d end) r

packed_shortens : Shortens (mark 60 >> mark 123)
packed_shortens = seq_shortens _ _ (token_shortens _ _) (token_end _ _)

pub packed_fewer : (o : TypeOpening) (tokens inside : List Token) → o ≡ opening.Packed → opens o (lexemes_of tokens) (lexemes_of inside) → length inside < length tokens
packed_fewer o tokens inside is bracket =
    fewer tokens inside (packed_shortens (lexemes_of tokens) (lexemes_of inside) (subst (λ x. opens x (lexemes_of tokens) (lexemes_of inside)) is bracket)).less

-- refusals of a type without its pointers
pub array_stops : (o : TypeOpening) (tokens inside : List Lexeme) (error told : ReadError) → told ≡ error → o ≡ opening.Array → opens o tokens inside → CountedStops 93 inside error → TypeStops tokens told
array_stops o tokens inside NoMemory told same is bracket stops = subst (TypeStops tokens) (sym same) tt
array_stops o tokens inside (Refused refusal) told same is bracket stops =
    subst (TypeStops tokens) (sym same) (in_array inside (subst (λ x. opens x tokens inside) is bracket) stops)

pub vector_stops : (o : TypeOpening) (tokens inside : List Lexeme) (error told : ReadError) → told ≡ error → o ≡ opening.Vector → opens o tokens inside → CountedStops 62 inside error → TypeStops tokens told
vector_stops o tokens inside NoMemory told same is bracket stops = subst (TypeStops tokens) (sym same) tt
vector_stops o tokens inside (Refused refusal) told same is bracket stops =
    subst (TypeStops tokens) (sym same) (in_vector inside (subst (λ x. opens x tokens inside) is bracket) stops)

pub struct_stops : (o : TypeOpening) (tokens inside : List Lexeme) (error told : ReadError) → told ≡ error → o ≡ opening.Struct → opens o tokens inside → MembersStop inside error → TypeStops tokens told
struct_stops o tokens inside NoMemory told same is bracket stops = subst (TypeStops tokens) (sym same) tt
struct_stops o tokens inside (Refused refusal) told same is bracket stops =
    subst (TypeStops tokens) (sym same) (in_struct inside (subst (λ x. opens x tokens inside) is bracket) stops)

pub packed_stops : (o : TypeOpening) (tokens inside : List Lexeme) (error told : ReadError) → told ≡ error → o ≡ opening.Packed → opens o tokens inside → MembersStop inside error → TypeStops tokens told
packed_stops o tokens inside NoMemory told same is bracket stops = subst (TypeStops tokens) (sym same) tt
packed_stops o tokens inside (Refused refusal) told same is bracket stops =
    subst (TypeStops tokens) (sym same) (in_packed inside (subst (λ x. opens x tokens inside) is bracket) stops)

pub packed_unclosed : (o : TypeOpening) (old new : List NameText) (ms : List LlType) (tokens inside : List Lexeme) (behind : List Token) (refusal : Refusal) (told : ReadError) → told ≡ Refused refusal → o ≡ opening.Packed → opens o tokens inside → ReadsWith members old new ms inside (lexemes_of behind) → EndsNowhere (mark 62) (lexemes_of behind) → refusal ≡ record { rule = 3; left = length behind } → TypeStops tokens told
packed_unclosed o old new ms tokens inside behind refusal told same is bracket r nowhere place =
    subst (TypeStops tokens) (sym same) (behind_packed inside (lexemes_of behind) new ms (subst (λ x. opens x tokens inside) is bracket) (derived members old new ms _ _ r) (unexpected_at (mark 62) behind refusal nowhere place))

pub name_stops : (o : TypeOpening) (tokens inside : List Lexeme) (error told : ReadError) → told ≡ error → o ≡ opening.Named → opens o tokens inside → NameFails LocalToken StructName tokens error → TypeStops tokens told
name_stops o tokens inside NoMemory told same is bracket fails = subst (TypeStops tokens) (sym same) tt
name_stops o tokens inside (Refused refusal) told same is bracket fails =
    let known : opens opening.Named tokens inside = subst (λ x. opens x tokens inside) is bracket in
    subst (TypeStops tokens) (sym same) (no_name (refl, known.1) fails)

pub plain_stops : (o : TypeOpening) (tokens : List Token) (inside : List Lexeme) (refusal : Refusal) (told : ReadError) → told ≡ Refused refusal → o ≡ opening.Plain → opens o (lexemes_of tokens) inside → NoWordType (lexemes_of tokens) → refusal ≡ record { rule = 3; left = length tokens } → TypeStops (lexemes_of tokens) told
plain_stops o tokens inside refusal told same is bracket nowhere place =
    let known : opens opening.Plain (lexemes_of tokens) inside = subst (λ x. opens x (lexemes_of tokens) inside) is bracket in
    subst (TypeStops (lexemes_of tokens)) (sym same) (no_type (refl, known.1) nowhere (subst (λ (n : ℕ). refusal ≡ record { rule = 3; left = n }) (sym (length-map tokens lexeme_of)) place))

-- a type and its pointers
with_pointers : (names : List NameText) (base : TypeBase) (ps : List ℕ) (tokens behind rest : List Lexeme) → type_base names base tokens behind → pointers_here ps behind rest → ty_here names (record { base = base; pointers = ps }) tokens rest
unfolding ◌>>◌
with_pointers names base ps tokens behind rest d here = ((behind, d, here.pointers), here.all)

pub type_reads : (old new : List NameText) (base : TypeBase) (ps : List ℕ) (tokens behind rest : List Lexeme) → ReadsWith type_base old new base tokens behind → pointers_here ps behind rest → ReadsWith ty_here old new (record { base = base; pointers = ps }) tokens rest
type_reads old new base ps tokens behind rest r here =
    reads_as type_base ty_here base _ old new tokens tokens behind rest (λ names d. with_pointers names base ps tokens behind rest d here) r

pub pointers_stop : (old new : List NameText) (base : TypeBase) (tokens behind : List Lexeme) (error told : ReadError) → told ≡ error → ReadsWith type_base old new base tokens behind → PointersFail behind error → TypeStops tokens told
pointers_stop old new base tokens behind NoMemory told same r fails = subst (TypeStops tokens) (sym same) tt
pointers_stop old new base tokens behind (Refused refusal) told same r fails =
    subst (TypeStops tokens) (sym same) (in_pointers behind new base (derived type_base old new base _ _ r) fails)

-- a counted part
counted_parts : (code : ℕ) (names : List NameText) (count : ℕ) (part : LlType) (tokens behind inside end rest : List Lexeme) → number count tokens behind → word (codes "x") behind inside → ty_here names part inside end → mark code end rest → counted code names (record { count = count; part = part }) tokens rest
unfolding ◌>>◌
counted_parts code names count part tokens behind inside end rest n x d close = (behind, n, (inside, x, (end, d, close)))

pub counted_reads : (code : ℕ) (old new : List NameText) (count : ℕ) (part : LlType) (tokens behind inside end rest : List Lexeme) → number count tokens behind → word (codes "x") behind inside → ReadsWith ty_here old new part inside end → mark code end rest → ReadsWith (counted code) old new (record { count = count; part = part }) tokens rest
counted_reads code old new count part tokens behind inside end rest n x r close =
    reads_as ty_here (counted code) part _ old new tokens inside end rest (λ names d. counted_parts code names count part tokens behind inside end rest n x d close) r

pub count_stops : (code : ℕ) (tokens : List Token) (refusal : Refusal) (told : ReadError) → told ≡ Refused refusal → DerivesNone number (lexemes_of tokens) → refusal ≡ record { rule = number_rule (lexemes_of tokens); left = length tokens } → CountedStops code (lexemes_of tokens) told
count_stops code tokens refusal told same none place =
    subst (CountedStops code (lexemes_of tokens)) (sym same)
    (no_count (none, subst (λ (n : ℕ). refusal ≡ record { rule = number_rule (lexemes_of tokens); left = n }) (sym (length-map tokens lexeme_of)) place))

pub times_stops : (code count : ℕ) (tokens : List Lexeme) (behind : List Token) (refusal : Refusal) (told : ReadError) → told ≡ Refused refusal → number count tokens (lexemes_of behind) → EndsNowhere (word (codes "x")) (lexemes_of behind) → refusal ≡ record { rule = 3; left = length behind } → CountedStops code tokens told
times_stops code count tokens behind refusal told same n nowhere place =
    subst (CountedStops code tokens) (sym same) (no_times (lexemes_of behind) count n (unexpected_at (word (codes "x")) behind refusal nowhere place))

pub part_stops : (code count : ℕ) (tokens behind inside : List Lexeme) (error told : ReadError) → told ≡ error → number count tokens behind → word (codes "x") behind inside → TypeStops inside error → CountedStops code tokens told
part_stops code count tokens behind inside NoMemory told same n x stops = subst (CountedStops code tokens) (sym same) tt
part_stops code count tokens behind inside (Refused refusal) told same n x stops = subst (CountedStops code tokens) (sym same) (no_part behind inside count n x stops)

pub close_stops : (code count : ℕ) (old new : List NameText) (part : LlType) (tokens behind inside : List Lexeme) (end : List Token) (refusal : Refusal) (told : ReadError) → told ≡ Refused refusal → number count tokens behind → word (codes "x") behind inside → ReadsWith ty_here old new part inside (lexemes_of end) → EndsNowhere (mark code) (lexemes_of end) → refusal ≡ record { rule = 3; left = length end } → CountedStops code tokens told
close_stops code count old new part tokens behind inside end refusal told same n x r nowhere place =
    subst (CountedStops code tokens) (sym same) (no_close behind inside (lexemes_of end) count new part n x (derived ty_here old new part _ _ r) (unexpected_at (mark code) end refusal nowhere place))

-- members
no_members : (names : List NameText) (tokens rest : List Lexeme) → mark 125 tokens rest → members names [] tokens rest
unfolding ◌>>◌
no_members names tokens rest close = (tokens, refl, close)

pub no_members_read : (names : List NameText) (ms : List LlType) (tokens rest : List Lexeme) → ms ≡ [] → mark 125 tokens rest → ReadsWith members names names ms tokens rest
no_members_read names ms tokens rest none close = record {
  extends = extends_same names;
  reads = λ longer e. subst (λ xs. members longer xs tokens rest) (sym none) (no_members longer tokens rest close);
}

pub first_stops : (tokens : List Lexeme) (error told : ReadError) → told ≡ error → EndsNowhere (mark 125) tokens → TypeStops tokens error → MembersStop tokens told
first_stops tokens NoMemory told same nowhere stops = subst (MembersStop tokens) (sym same) tt
first_stops tokens (Refused refusal) told same nowhere stops = subst (MembersStop tokens) (sym same) (no_first nowhere stops)

pub next_stops : (old now : List NameText) (ms : List LlType) (tokens end : List Lexeme) (error told : ReadError) → told ≡ error → ReadsWith some_types old now ms tokens end → NextStops end error → MembersStop tokens told
next_stops old now ms tokens end NoMemory told same r stops = subst (MembersStop tokens) (sym same) tt
next_stops old now ms tokens end (Refused refusal) told same r (behind, comma, fails) =
    subst (MembersStop tokens) (sym same) (no_next end behind now ms (derived some_types old now ms _ _ r) comma fails)

pub end_stops : (old now : List NameText) (ms : List LlType) (tokens : List Lexeme) (end : List Token) (refusal : Refusal) (told : ReadError) → told ≡ Refused refusal → ReadsWith some_types old now ms tokens (lexemes_of end) → EndsNowhere (mark 44) (lexemes_of end) → EndsNowhere (mark 125) (lexemes_of end) → refusal ≡ record { rule = 3; left = length end } → MembersStop tokens told
end_stops old now ms tokens end refusal told same r no_comma nowhere place =
    subst (MembersStop tokens) (sym same) (no_end (lexemes_of end) now ms (derived some_types old now ms _ _ r) no_comma (unexpected_at (mark 125) end refusal nowhere place))

next_types : (names : List NameText) (t : LlType) (tokens behind rest : List Lexeme) → mark 44 tokens behind → ty_here names t behind rest → next_type names t tokens rest
unfolding ◌>>◌
next_types names t tokens behind rest comma d = (behind, comma, d)

pub next_reads : (old new : List NameText) (t : LlType) (tokens behind rest : List Lexeme) → mark 44 tokens behind → ReadsWith ty_here old new t behind rest → ReadsWith next_type old new t tokens rest
next_reads old new t tokens behind rest comma r =
    reads_as ty_here next_type t t old new tokens behind rest rest (λ names d. next_types names t tokens behind rest comma d) r

pub some_stop : (old now : List NameText) (ms : List LlType) (tokens here end : List Token) (left : ℕ) (refusal : Refusal) (told : ReadError) → told ≡ Refused refusal → MembersSoFar old now tokens ms left → here ≡ drop (length tokens - left) tokens → end ≡ drop (length tokens - left) tokens → EndsNowhere (mark 44) (lexemes_of here) → EndsNowhere (mark 125) (lexemes_of end) → refusal ≡ record { rule = 3; left = length end } → MembersStop (lexemes_of tokens) told
some_stop old now ms tokens here end left refusal told same so_far is is' no_comma nowhere place =
    end_stops old now ms (lexemes_of tokens) end refusal told same (read_so_far old now ms tokens end left so_far is') (subst (λ ts. EndsNowhere (mark 44) (lexemes_of ts)) (is ∙ sym is') no_comma) nowhere place

pub some_read : (old now next : List NameText) (ms : List LlType) (tokens end : List Token) (rest : List Lexeme) (left : ℕ) → next ≡ now → MembersSoFar old now tokens ms left → end ≡ drop (length tokens - left) tokens → mark 125 (lexemes_of end) rest → ReadsWith members old next ms (lexemes_of tokens) rest
some_read old now next ms tokens end rest left kept so_far is close =
    subst (λ names. ReadsWith members old names ms (lexemes_of tokens) rest) (sym kept)
    (members_read old now ms (lexemes_of tokens) (lexemes_of end) rest (read_so_far old now ms tokens end left so_far is) close)
