-- What earlier instructions say of a literal's width, by the instructions that define its type.
use Rattle.std.proofs.Common.{◌≡◌, ℕ, Bool, true, false, List, [], ◌∷◌, Option, Some, None, refl, ap, ◌∙◌}
use Rattle.std.specs.Prelude.{◌==◌, if◌then◌else◌, slice_get}
use Rattle.std.specs.Option.{option_map}
use Rattle.spv_codec.specs.declared.module.RawInst.{RawInst}
use Rattle.spv_codec.specs.declared.ids.IdKind.{IdKind}
use Rattle.spv_codec.specs.Ids.{kinds_of, is_id, ids_of, id_kind, integer_of, value_of, width_of, value_width, literal_width, result_id}
use Rattle.spv_codec.specs.Operands.{is_wide}
use Rattle.spv_layout.specs.declared.operands.OperandKind.{OperandKind}
use Rattle.spv_layout.specs.declared.operands.OperandKind.TheVariants.{T}
use Rattle.spv_names.specs.Definitions.{result_of, definition_of}
use Rattle.spv_names.specs.Uses.{has_wide}
use Rattle.spv_names.specs.Widths.{is_wide_type, type_by, type_of, option_type, is_wide_selector, wide_words}

abbrev kind_of : RawInst → IdKind
kind_of inst = id_kind inst.op (kinds_of inst.op) inst.operands

map-one : {X K : Type 0} (f : X → K) (b : Bool) (x : X) (o : Option X) (p : Option K) → p ≡ option_map f o
    → (if b then Some (f x) else p) ≡ option_map f (if b then Some x else o)
map-one f true x o p e = refl
map-one f false x o p e = e

ids-kind : (xs : List RawInst) (id : ℕ) → ids_of xs id ≡ option_map kind_of (definition_of xs id)
unfolding result_of
ids-kind [] id = refl
ids-kind (x ∷ xs) id = map-one kind_of (is_id id (result_id (kinds_of x.op) x.operands)) x (definition_of xs id) (ids_of xs id) (ids-kind xs id)

integer-wide : (words : List ℕ) → is_wide (width_of (Some (integer_of words))) ≡ is_id 64 (slice_get words 1)
integer-wide [] = refl
integer-wide (a ∷ []) = refl
integer-wide (a ∷ b ∷ rest) = refl

value-narrow : (kinds : List OperandKind) (words : List ℕ) → is_wide (width_of (Some (value_of kinds words))) ≡ false
value-narrow (T ∷ kinds) (a ∷ words) = refl
value-narrow kinds words = refl

kind-wide : (b : Bool) (kinds : List OperandKind) (words : List ℕ)
    → is_wide (width_of (Some (if b then integer_of words else value_of kinds words))) ≡ (if b then is_id 64 (slice_get words 1) else false)
kind-wide true kinds words = integer-wide words
kind-wide false kinds words = value-narrow kinds words

type-wide : (o : Option RawInst) → is_wide (width_of (option_map kind_of o)) ≡ is_wide_type o
type-wide None = refl
type-wide (Some inst) = kind-wide (inst.op == 21) (kinds_of inst.op) inst.operands

abbrev wide_at : List RawInst → Option ℕ → Bool
wide_at xs None = false
wide_at xs (Some type) = is_wide (width_of (ids_of xs type))

integer-untyped : (xs : List RawInst) (words : List ℕ) → is_wide (value_width (ids_of xs) (Some (integer_of words))) ≡ false
integer-untyped xs [] = refl
integer-untyped xs (a ∷ []) = refl
integer-untyped xs (a ∷ b ∷ rest) = refl

value-typed : (xs : List RawInst) (kinds : List OperandKind) (words : List ℕ) → is_wide (value_width (ids_of xs) (Some (value_of kinds words))) ≡ wide_at xs (type_by kinds words)
value-typed xs (T ∷ kinds) (a ∷ words) = refl
value-typed xs kinds words = refl

kind-typed : (xs : List RawInst) (b : Bool) (kinds : List OperandKind) (words : List ℕ)
    → is_wide (value_width (ids_of xs) (Some (if b then integer_of words else value_of kinds words))) ≡ wide_at xs (if b then None else type_by kinds words)
kind-typed xs true kinds words = integer-untyped xs words
kind-typed xs false kinds words = value-typed xs kinds words

value-wide : (xs : List RawInst) (o : Option RawInst) → is_wide (value_width (ids_of xs) (option_map kind_of o)) ≡ wide_at xs (option_type o)
unfolding type_of
value-wide xs None = refl
value-wide xs (Some inst) = kind-typed xs (inst.op == 21) (kinds_of inst.op) inst.operands

wide-selector : (xs : List RawInst) (o : Option ℕ) → wide_at xs o ≡ is_wide_selector xs o
wide-selector xs None = refl
wide-selector xs (Some type) = ap (λ k. is_wide (width_of k)) (ids-kind xs type) ∙ type-wide (definition_of xs type)

wide-choice : (a b : Bool) (x y : Option ℕ) (p q : Bool) → is_wide x ≡ p → is_wide y ≡ q → is_wide (if a then x else (if b then y else None)) ≡ (if a then p else (if b then q else false))
wide-choice true b x y p q e f = e
wide-choice false true x y p q e f = f
wide-choice false false x y p q e f = refl

wide-words : (xs : List RawInst) (number : ℕ) (words : List ℕ) → is_wide (literal_width (ids_of xs) number words) ≡ wide_words xs number words
wide-words xs number [] = refl
wide-words xs number (first ∷ words) =
    wide-choice (number == 43) (number == 251) (width_of (ids_of xs first)) (value_width (ids_of xs) (ids_of xs first)) (is_wide_type (definition_of xs first)) (is_wide_selector xs (option_type (definition_of xs first)))
    (ap (λ k. is_wide (width_of k)) (ids-kind xs first) ∙ type-wide (definition_of xs first))
    (ap (λ k. is_wide (value_width (ids_of xs) k)) (ids-kind xs first) ∙ (value-wide xs (definition_of xs first) ∙ wide-selector xs (option_type (definition_of xs first))))

pub has-wide : (xs : List RawInst) (inst : RawInst) → has_wide xs inst ≡ wide_words xs inst.op inst.operands
unfolding has_wide
has-wide xs inst = wide-words xs inst.op inst.operands
