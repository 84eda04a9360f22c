-- The instructions of a kernel of the covered subset use values.
use Rattle.std.proofs.Common.{◌≡◌, ℕ, zero, suc, ◌+◌, true, List, [], ◌∷◌, ◌++◌, map, length, Option, Some, None, refl, sym, ap, ◌∙◌, arith}
use Rattle.std.specs.Prelude.{flat_map, nat_eq, nat_le, nat_lt, slice_get}
use Rattle.std.specs.List.{list_all, range_with_len}
use Rattle.std.specs.Option.{option_map}
use Rattle.std.proofs.lemmas.Bool.{and_parts}
use Rattle.std.proofs.lemmas.List.{append_assoc, length-map}
use Rattle.std.proofs.lemmas.List.Elements.{All-from_recursion}
use Rattle.std.proofs.lemmas.Option.{slice_get-map}
use Rattle.inst_walk.specs.Places.{place_of}
use Rattle.kernel_tree.specs.declared.kernel.Kernel.{Kernel}
use Rattle.kernel_tree.specs.declared.kernel.KernelInst.{KernelInst}
use Rattle.kernel_tree.specs.declared.names.Definition.{Definition}
use Rattle.kernel_tree.specs.declared.names.Use.{Use}
use Rattle.kernel_tree.specs.Canonical.{numbers_defined}
use Rattle.kernel_tree.specs.Covered.{are_distinct, has_type, in_sequence, is_found, use_fits, uses_fit}
use Rattle.kernel_tree.specs.Names.{block_definition, defined_by, definitions, param_definition, used_by, uses}
use Rattle.kernel_tree.specs.Numbered.{IsNumbered, definition_count, number_defined, number_used}
use Rattle.spv_canon.proofs.ListFacts.{get-behind, some-is, stands}
use Rattle.partner_rules.specs.Laws.{CoveredKernelsUseValues, IsValueOf}
use Rattle.partner_rules.proofs.Each.{Each, each-append, each-weaker, never}

none-is : {A : Type 0} (x : A) → None ≡ Some x → ⊥
none-is x e = cc

-- a use finds a definition with a type
record FindsValue (defined : List Definition) (used : Use) : Type 0 where
  place : ℕ
  stands_at : slice_get (map number_defined defined) place ≡ Some (number_used used)
  typed : has_type used.value_type (slice_get defined place) ≡ true

finds : (defined : List Definition) (above : ℕ) (used : Use) → use_fits defined above used ≡ true → FindsValue defined used
finds defined above used fits = by (place_of nat_eq (map number_defined defined) used.name.number) refl fits
  where
    by : (o : Option ℕ) → place_of nat_eq (map number_defined defined) used.name.number ≡ o → is_found defined above used.value_type o ≡ true → FindsValue defined used
    by None none found = never found
    by (Some place) some found =
        record {
          place = place;
          stands_at = stands (map number_defined defined) used.name.number place some;
          typed = (and_parts (nat_lt place above) (has_type used.value_type (slice_get defined place)) found).1;
        }

find-each : (defined : List Definition) (above : ℕ) (used : List Use) → list_all (use_fits defined above) used ≡ true → Each (FindsValue defined) used
find-each defined above [] fits = tt
find-each defined above (first ∷ used) fits =
    let both = and_parts (use_fits defined above first) (list_all (use_fits defined above) used) fits in
    (finds defined above first both.0, find-each defined above used both.1)

find-all : (defined : List Definition) (above : ℕ) (insts : List KernelInst) → uses_fit defined above insts ≡ true → Each (FindsValue defined) (flat_map used_by insts)
find-all defined above [] fits = tt
find-all defined above (inst ∷ insts) fits =
    let both = and_parts (list_all (use_fits defined above) (used_by inst)) (uses_fit defined (above + length (defined_by inst)) insts) fits in
    each-append (FindsValue defined) (used_by inst) (flat_map used_by insts) (find-each defined above (used_by inst) both.0)
    (find-all defined (above + length (defined_by inst)) insts both.1)

-- numbers that count up
range-get : (start count place number : ℕ) → slice_get (range_with_len start count) place ≡ Some number → number ≡ start + place
range-get start zero place number at = absurd (none-is number at)
range-get start (suc count) zero number at = let same = some-is start number at in omega arith
range-get start (suc count) (suc place) number at = let behind = range-get (start + 1) count place number at in omega arith

-- the block stands behind the parameters
block-stands : (kernel : Kernel) → slice_get (definitions kernel) (length kernel.params) ≡ Some (block_definition kernel.block)
block-stands kernel =
    let params = map param_definition kernel.params in
    let values = flat_map defined_by kernel.insts in
    ap (λ ds. slice_get ds (length kernel.params)) (append_assoc params (block_definition kernel.block ∷ []) values)
    ∙ get-behind params (block_definition kernel.block ∷ [] ++ values) 0 (length kernel.params) (omega (arith, length-map kernel.params param_definition))

number-at : (kernel : Kernel) → IsNumbered kernel → (place number : ℕ) → slice_get (map number_defined (definitions kernel)) place ≡ Some number → number ≡ 1 + place
number-at kernel numbered place number at =
    range-get 1 (definition_count kernel) place number (sym (ap (λ ns. slice_get ns place) numbered.defined) ∙ at)

is-value : (kernel : Kernel) → IsNumbered kernel → (used : Use) → FindsValue (definitions kernel) used → IsValueOf kernel used
is-value kernel numbered used finds =
    let number : number_used used ≡ 1 + finds.place = number-at kernel numbered finds.place (number_used used) finds.stands_at in
    let block_at : slice_get (map number_defined (definitions kernel)) (length kernel.params) ≡ Some kernel.block.number =
    slice_get-map number_defined (definitions kernel) (length kernel.params) ∙ ap (option_map number_defined) (block-stands kernel) in
    let block : kernel.block.number ≡ 1 + length kernel.params = number-at kernel numbered (length kernel.params) kernel.block.number block_at in
    (λ e. absurd (omega arith), λ e. is-block (omega arith))
  where
    is-block : finds.place ≡ length kernel.params → ⊥
    is-block e =
        never (sym (ap (λ p. has_type used.value_type (slice_get (definitions kernel) p)) e ∙ ap (has_type used.value_type) (block-stands kernel)) ∙ finds.typed)

pub covered-values : CoveredKernelsUseValues
covered-values kernel numbered covered =
    let parts = and_parts (nat_le (length kernel.params) 255) _ covered in
    let distinct = and_parts (are_distinct (numbers_defined kernel)) _ parts.1 in
    let sequence = and_parts (in_sequence kernel.names 0 (numbers_defined kernel)) _ distinct.1 in
    All-from_recursion (IsValueOf kernel) (uses kernel)
    (each-weaker (FindsValue (definitions kernel)) (IsValueOf kernel) (is-value kernel numbered) (uses kernel)
    (find-all (definitions kernel) (length kernel.params + 1) kernel.insts sequence.1))
