-- Operands that instructions share, as parts.
use Rattle.std.proofs.Common.{List, codes, refl}
use Rattle.ll_tokens.specs.Tokens.{Lexeme}
use Rattle.ll_tree.specs.declared.name.Name.{Name}
use Rattle.ll_tree.specs.declared.name.NameText.{NameText}
use Rattle.ll_tree.specs.declared.ty.LlType.{LlType}
use Rattle.ll_tree.specs.declared.value.TypedValue.{TypedValue}
use Rattle.ll_tree.specs.declared.value.Value.{Value}
use Rattle.ll_parser.specs.GrammarValues.{local, typed, value}
use Rattle.ll_parser.specs.NameReading.{ReadsWith}
use Rattle.ll_parser.specs.Productions.{Production, ◌>>◌, mark, word}
use Rattle.ll_types.specs.TypeParts.{ty_here}
use Rattle.ll_types.specs.ValueParts.{value_of}
use Rattle.ll_operands.specs.declared.operands.OfOneType.{OfOneType}
use Rattle.ll_operands.specs.declared.operands.Three.{Three}
use Rattle.ll_operands.specs.declared.operands.Two.{Two}
use Rattle.ll_operands.specs.Operands.{label, label_part, of_one_type, one_type_part, three, three_part, two, two_part}
use Rattle.ll_operands.proofs.PartFacts.{IsExact, exact_local, exact_mark, exact_then, exact_type_then, exact_typed, exact_value, exact_word}
use Rattle.ll_operands.proofs.Readings.{reads_then}

pub exact_two : IsExact two_part
exact_two = exact_then _ _ exact_typed (exact_then _ _ (exact_mark 44) exact_typed)

pub exact_three : IsExact three_part
exact_three = exact_then _ _ exact_typed (exact_then _ _ (exact_mark 44) exact_two)

pub exact_one_type : IsExact one_type_part
exact_one_type = exact_type_then _ (λ width. exact_then _ _ (exact_value width) (exact_then _ _ (exact_mark 44) (exact_value width)))

pub exact_label : IsExact label_part
exact_label = exact_then _ _ (exact_word (codes "label")) exact_local

pub two_is_part : (names : List NameText) (o : Two) (tokens rest : List Lexeme) → two names o tokens rest → two_part.begins tokens rest
unfolding ◌>>◌
two_is_part names o tokens rest (m, first, (n, comma, second)) = (m, (names, o.first, first), (n, comma, (names, o.second, second)))

pub three_is_part : (names : List NameText) (o : Three) (tokens rest : List Lexeme) → three names o tokens rest → three_part.begins tokens rest
unfolding ◌>>◌
three_is_part names o tokens rest (m, first, (n, comma, (p, second, (q, comma', third)))) =
    (m, (names, o.first, first), (n, comma, (p, (names, o.second, second), (q, comma', (names, o.third, third)))))

pub one_type_is_part : (names : List NameText) (o : OfOneType) (tokens rest : List Lexeme) → of_one_type names o tokens rest → one_type_part.begins tokens rest
unfolding ◌>>◌
one_type_is_part names o tokens rest (m, type, (n, left, (p, comma, right))) =
    (names, o.ty, m, type, (n, (o.ty, refl, (names, o.left, left)), (p, comma, (o.ty, refl, (names, o.right, right)))))

pub label_is_part : (names : List NameText) (name : Name) (tokens rest : List Lexeme) → label names name tokens rest → label_part.begins tokens rest
unfolding ◌>>◌
label_is_part names name tokens rest (m, w, l) = (m, w, (names, name, l))

-- operands as they are read, one behind another
pub two_read : (old between new : List NameText) (v w : TypedValue) (tokens behind after rest : List Lexeme) → ReadsWith typed old between v tokens behind → mark 44 behind after → ReadsWith typed between new w after rest → ReadsWith two old new (record { first = v; second = w }) tokens rest
unfolding ◌>>◌
two_read old between new v w tokens behind after rest x comma y =
    reads_then typed typed two v w _ old between new tokens behind after rest rest (λ names d e. (behind, d, (after, comma, e))) x y

pub three_read : (old between new : List NameText) (v : TypedValue) (o : Two) (tokens behind after rest : List Lexeme) → ReadsWith typed old between v tokens behind → mark 44 behind after → ReadsWith two between new o after rest → ReadsWith three old new (record { first = v; second = o.first; third = o.second }) tokens rest
unfolding ◌>>◌
three_read old between new v o tokens behind after rest x comma y =
    reads_then typed two three v o _ old between new tokens behind after rest rest (λ names d e. (behind, d, (after, comma, e))) x y

pub label_read : (old new : List NameText) (name : Name) (tokens behind rest : List Lexeme) → word (codes "label") tokens behind → ReadsWith local old new name behind rest → ReadsWith label old new name tokens rest
unfolding ◌>>◌
label_read old new name tokens behind rest w x = record { extends = x.extends; reads = λ longer e. (behind, w, x.reads longer e) }

-- a type and a value of it
record Half (names : List NameText) (t : LlType) (v : Value) (tokens behind : List Lexeme) : Type 0 where
  middle : List Lexeme
  type : ty_here names t tokens middle
  value : value names v t middle behind

half : LlType → List NameText → Value → Production
half t names v tokens behind = Half names t v tokens behind

pub one_type_read : (old between later new : List NameText) (t : LlType) (v w : Value) (tokens inside behind after rest : List Lexeme) → ReadsWith ty_here old between t tokens inside → ReadsWith (value_of t) between later v inside behind → mark 44 behind after → ReadsWith (value_of t) later new w after rest → ReadsWith of_one_type old new (record { ty = t; left = v; right = w }) tokens rest
unfolding ◌>>◌ half
one_type_read old between later new t v w tokens inside behind after rest x y comma z =
    reads_then (half t) (value_of t) of_one_type v w _ old later new tokens behind after rest rest
    (λ names d e. (d.middle, d.type, (behind, d.value, (after, comma, e))))
    (reads_then ty_here (value_of t) (half t) t v v old between later tokens inside inside behind behind (λ names d e. record { middle = inside; type = d; value = e }) x y)
    z
