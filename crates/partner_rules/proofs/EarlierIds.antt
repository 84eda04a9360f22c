-- The declarations of a kernel's module use ids that are defined before them.
use Rattle.std.proofs.Common.{◌≡◌, ℕ, zero, suc, ◌+◌, Bool, true, false, List, [], ◌∷◌, ◌++◌, length, inl, inr, refl, ap, ◌∙◌, arith, subst, append-nil}
use Rattle.std.specs.Prelude.{◌⊎◌, ◌==◌, ◌||◌, if◌then◌else◌, not, take}
use Rattle.std.specs.List.{list_any}
use Rattle.std.proofs.lemmas.Bool.{and_right, or_left, or_right}
use Rattle.spv_codec.specs.declared.module.RawInst.{RawInst}
use Rattle.spv_layout.specs.declared.opcode.Opcode.TheVariants as op
use Rattle.spv_layout.specs.Forms.{number_of}
use Rattle.spv_module.specs.Sections.{placed}
use Rattle.spv_module.specs.Spelled.{entry_spelled, param_spelled, spelled}
use Rattle.spv_module.specs.Woven.{inst_spelled}
use Rattle.kernel_tree.specs.declared.kernel.Kernel.{Kernel}
use Rattle.kernel_tree.specs.declared.kernel.KernelInst.{KernelInst}
use Rattle.kernel_tree.specs.declared.kernel.KernelInst.TheVariants.{Add, Load, Store}
use Rattle.kernel_tree.specs.declared.kernel.KernelParam.{KernelParam}
use Rattle.to_spirv.specs.Partner.{entry_partner, inst_partner, param_partner}
use Rattle.to_spirv.proofs.SectionLemmas.{block_insts, front_insts, function_inst, tail_of}
use Rattle.spv_names.specs.Definitions.{defines, result_of}
use Rattle.spv_names.specs.IdRules.{is_declarations, is_defined, is_defined_later, uses_later}
use Rattle.spv_sections.specs.Places.{places_behind}
use Rattle.spv_sections.specs.SectionOrder.{has_begun, rank_behind, rank_in}
use Rattle.spv_sections.specs.Standing.{standing_of}
use Rattle.spv_names.specs.Uses.{form_ids, uses_of}
use Rattle.partner_rules.specs.Laws.{DeclarationsUseEarlierIds}
use Rattle.partner_rules.proofs.Each.{Each, each-placed, none-more, none-weaker}
use Rattle.partner_rules.proofs.ModuleParts.{IdsOf, Needed, Neither, ParamInt, ParamPointer, ResultInt, ids_for, types_for, IsBefore, each-tail, insts_by, of-listed}
use Rattle.partner_rules.proofs.OnceDefined.{defined-more}
use Rattle.partner_rules.proofs.Places.{no-place}
use Rattle.partner_rules.proofs.UsedIds.{uses-are}

-- no id of an instruction has to be defined before it
record IsFree (inst : RawInst) : Type 0 where
  declares : (begun : Bool) → is_declarations (rank_in begun (standing_of inst)) ≡ false
  selects : (inst.op == number_of op.Switch) ≡ false

-- or each is
abbrev isnt_before : List RawInst → ℕ → Bool
isnt_before before id = not (is_defined before id)

abbrev UsesBefore : List RawInst → RawInst → Type 0
UsesBefore before inst = (wide : Bool) → list_any (isnt_before before) (form_ids wide inst) ≡ false

abbrev KeepsOrder : List RawInst → List RawInst → Type 0
KeepsOrder before [] = Unit {0}
KeepsOrder before (inst ∷ insts) = (IsFree inst ⊎ UsesBefore before inst) × KeepsOrder (before ++ inst ∷ []) insts

free-places : (inst : RawInst) (place : ℕ) → IsFree inst → IsFree (record inst { place = place })
unfolding standing_of
free-places inst place free = record { declares = free.declares; selects = free.selects }

free-order : (before insts : List RawInst) → Each IsFree insts → KeepsOrder before insts
free-order before [] all = tt
free-order before (inst ∷ insts) all = (inl all.0, free-order (before ++ inst ∷ []) insts all.1)

none-asked : (test : ℕ → Bool) (declares selects : Bool) (uses : List ℕ) → declares ≡ false → selects ≡ false
    → list_any test (if declares then uses else (if selects then take 1 uses else [])) ≡ false
none-asked test declares selects uses no_declaration no_switch =
    ap (λ b. list_any test (if b then uses else (if selects then take 1 uses else []))) no_declaration ∙ ap (λ b. list_any test (if b then take 1 uses else [])) no_switch

none-later : (all before : List RawInst) (ids : List ℕ) → list_any (isnt_before before) ids ≡ false → list_any (is_defined_later all before) ids ≡ false
none-later all before =
    none-weaker (isnt_before before) (is_defined_later all before) (λ id is. and_right (is_defined all id) (isnt_before before id) is)

some-asked : (test : ℕ → Bool) (declares selects : Bool) (uses : List ℕ) → list_any test uses ≡ false
    → list_any test (if declares then uses else (if selects then take 1 uses else [])) ≡ false
some-asked test true selects uses none = none
some-asked test false true [] none = refl
some-asked test false true (first ∷ uses) none = by (test first) none
  where
    by : (b : Bool) → (b || list_any test uses) ≡ false → (b || false) ≡ false
    by true is = is
    by false is = refl
some-asked test false false uses none = refl

in-order : (all before insts : List RawInst) → KeepsOrder before insts → places_behind (uses_later all) before insts ≡ []
in-order all before [] keeps = refl
in-order all before (inst ∷ insts) keeps =
    no-place (uses_later all before inst) inst.place (places_behind (uses_later all) (before ++ inst ∷ []) insts) (by keeps.0) (in-order all (before ++ inst ∷ []) insts keeps.1)
  where
    by : IsFree inst ⊎ UsesBefore before inst → uses_later all before inst ≡ false
    by (inl free) =
        none-asked (is_defined_later all before) (is_declarations (rank_behind before inst)) (inst.op == number_of op.Switch) (uses_of all before inst)
        (free.declares (has_begun before)) free.selects
    by (inr earlier) =
        some-asked (is_defined_later all before) (is_declarations (rank_behind before inst)) (inst.op == number_of op.Switch) (uses_of all before inst)
        (uses-are (λ ids. list_any (is_defined_later all before) ids ≡ false) all before inst refl (λ wide. none-later all before (form_ids wide inst) (earlier wide)))

-- the function's instructions
module _ (ids : IdsOf) where
  params-free : (params : List KernelParam) → Each (λ param. IsFree (param_spelled (param_partner ids param))) params
  unfolding standing_of
  params-free [] = tt
  params-free (param ∷ params) = (record { declares = λ begun. refl; selects = refl }, params-free params)

  insts-free : (insts : List KernelInst) → Each (λ inst. IsFree (inst_spelled (inst_partner ids inst))) insts
  unfolding standing_of
  insts-free [] = tt
  insts-free (Add sum left right ∷ insts) = (record { declares = λ begun. refl; selects = refl }, insts-free insts)
  insts-free (Load loaded pointer is_aligned ∷ insts) = (record { declares = λ begun. refl; selects = refl }, insts-free insts)
  insts-free (Store value pointer is_aligned ∷ insts) = (record { declares = λ begun. refl; selects = refl }, insts-free insts)

  tail-free : (kernel : Kernel) → Each IsFree (tail_of ids kernel (block_insts ids kernel))
  unfolding standing_of
  tail-free kernel =
      each-tail IsFree ids kernel (params-free kernel.params) (record { declares = λ begun. refl; selects = refl }) (insts-free kernel.insts)
      (record { declares = λ begun. refl; selects = refl }) (record { declares = λ begun. refl; selects = refl })

  function-free : (kernel : Kernel) → Each IsFree (function_inst ids ∷ tail_of ids kernel (block_insts ids kernel))
  unfolding standing_of
  function-free kernel = (record { declares = λ begun. refl; selects = refl }, tail-free kernel)

  front-free : (kernel : Kernel) → Each IsFree (front_insts ids kernel)
  unfolding standing_of
  front-free kernel = (
    record { declares = λ begun. refl; selects = refl },
    (
      record { declares = λ begun. refl; selects = refl },
      (record { declares = λ begun. refl; selects = refl }, (record { declares = λ begun. refl; selects = refl }, tt)),
    ),
  )

-- the type of the function
signature-before : (needed : Needed) (before : List RawInst) (id place : ℕ) (types : List ℕ) → is_defined before 1 ≡ true
    → ((id : ℕ) → IsBefore needed id → is_defined before id ≡ true) → Each (IsBefore needed) types
    → UsesBefore before (record { op = number_of op.TypeFunction; place = place; operands = id ∷ 1 ∷ types })
unfolding form_ids
signature-before needed before id place types void others all wide =
    none-more (isnt_before before) 1 (types ++ []) (ap not void)
    (ap (λ ids. list_any (isnt_before before) ids) (append-nil types) ∙ each types all)
  where
    each : (ids : List ℕ) → Each (IsBefore needed) ids → list_any (isnt_before before) ids ≡ false
    each [] above = refl
    each (first ∷ ids) above = none-more (isnt_before before) first ids (ap not (others first above.0)) (each ids above.1)

-- the other types
void-before : (before : List RawInst) (place : ℕ) → UsesBefore before (record { op = number_of op.TypeVoid; place = place; operands = 1 ∷ [] })
unfolding form_ids
void-before before place wide = refl

int-before : (before : List RawInst) (place id : ℕ) → UsesBefore before (record { op = number_of op.TypeInt; place = place; operands = id ∷ 32 ∷ 0 ∷ [] })
unfolding form_ids
int-before before place id wide = refl

pointer-before : (before : List RawInst) (place : ℕ) → is_defined before 2 ≡ true
    → UsesBefore before (record { op = number_of op.TypePointer; place = place; operands = 3 ∷ 5 ∷ 2 ∷ [] })
unfolding form_ids
pointer-before before place int wide = none-more (isnt_before before) 2 [] (ap not int) refl

-- what an instruction defines is defined behind it
defined-here : (before : List RawInst) (inst : RawInst) (id : ℕ) → defines id inst ≡ true → is_defined (before ++ inst ∷ []) id ≡ true
defined-here before inst id is = defined-more before inst id ∙ or_right (is_defined before id) (defines id inst) is

defined-still : (before : List RawInst) (inst : RawInst) (id : ℕ) → is_defined before id ≡ true → is_defined (before ++ inst ∷ []) id ≡ true
defined-still before inst id is = defined-more before inst id ∙ or_left (is_defined before id) (defines id inst) is

abbrev void_at : ℕ → RawInst
void_at place = record { op = number_of op.TypeVoid; place = place; operands = 1 ∷ [] }

abbrev int_at : ℕ → ℕ → RawInst
int_at id place = record { op = number_of op.TypeInt; place = place; operands = id ∷ 32 ∷ 0 ∷ [] }

abbrev pointer_at : ℕ → RawInst
pointer_at place = record { op = number_of op.TypePointer; place = place; operands = 3 ∷ 5 ∷ 2 ∷ [] }

defines-void : (place : ℕ) → defines 1 (void_at place) ≡ true
unfolding result_of
defines-void place = refl

defines-int : (place : ℕ) → defines 2 (int_at 2 place) ≡ true
unfolding result_of
defines-int place = refl

defines-pointer : (place : ℕ) → defines 3 (pointer_at place) ≡ true
unfolding result_of
defines-pointer place = refl

-- the types that may stand before the function's
none-may : {P : Type 0} (id : ℕ) → IsBefore Neither id → P
none-may id above = absurd (omega (arith, above.0, above.1))

int-may : (before : List RawInst) → is_defined before 2 ≡ true → (id : ℕ) → IsBefore ParamInt id → is_defined before id ≡ true
int-may before int id above =
    let is : 2 ≡ id = omega (arith, above.0, above.1) in
    subst (λ (n : ℕ). is_defined before n ≡ true) is int

both-may : (before : List RawInst) → is_defined before 2 ≡ true → is_defined before 3 ≡ true → (id : ℕ) → IsBefore ParamPointer id → is_defined before id ≡ true
both-may before int pointer zero above = absurd (omega (arith, above.0))
both-may before int pointer (suc zero) above = absurd (omega (arith, above.0))
both-may before int pointer (suc (suc zero)) above = int
both-may before int pointer (suc (suc (suc zero))) above = pointer
both-may before int pointer (suc (suc (suc (suc id)))) above = absurd (omega (arith, above.1))

types-order : (needed : Needed) (before : List RawInst) (place : ℕ) (types : List ℕ) (rest : List RawInst) → Each (IsBefore needed) types
    → Each IsFree rest → KeepsOrder before (placed place (types_for needed types ++ rest))
types-order Neither before place types rest all free =
    let a = void_at place in
    let one = before ++ a ∷ [] in (
      inr (void-before before place),
      (
        inr (signature-before Neither one 2 (place + 2) types (defined-here before a 1 (defines-void place)) (λ id above. none-may id above) all),
        free-order _ _ (each-placed IsFree free-places _ rest free),
      ),
    )
types-order ResultInt before place types rest all free =
    let a = void_at place in
    let one = before ++ a ∷ [] in (
      inr (void-before before place),
      (
        inr (signature-before ResultInt one 2 (place + 2) types (defined-here before a 1 (defines-void place)) (λ id above. none-may id above) all),
        (inr (int-before _ _ 3), free-order _ _ (each-placed IsFree free-places _ rest free)),
      ),
    )
types-order ParamInt before place types rest all free =
    let a = void_at place in
    let b = int_at 2 (place + 2) in
    let one = before ++ a ∷ [] in
    let two = one ++ b ∷ [] in (
      inr (void-before before place),
      (
        inr (int-before one (place + 2) 2),
        (
          inr (signature-before ParamInt two 3 (place + 2 + 4) types (defined-still one b 1 (defined-here before a 1 (defines-void place)))
              (int-may two (defined-here one b 2 (defines-int (place + 2)))) all),
          free-order _ _ (each-placed IsFree free-places _ rest free),
        ),
      ),
    )
types-order ParamPointer before place types rest all free =
    let a = void_at place in
    let b = int_at 2 (place + 2) in
    let c = pointer_at (place + 2 + 4) in
    let one = before ++ a ∷ [] in
    let two = one ++ b ∷ [] in
    let three = two ++ c ∷ [] in
    let int : is_defined two 2 ≡ true = defined-here one b 2 (defines-int (place + 2)) in (
      inr (void-before before place),
      (
        inr (int-before one (place + 2) 2),
        (
          inr (pointer-before two (place + 2 + 4) int),
          (
            inr (signature-before ParamPointer three 4 (place + 2 + 4 + 4) types (defined-still two c 1 (defined-still one b 1 (defined-here before a 1 (defines-void place))))
                (both-may three (defined-still two c 2 int) (defined-here two c 3 (defines-pointer (place + 2 + 4)))) all),
            free-order _ _ (each-placed IsFree free-places _ rest free),
          ),
        ),
      ),
    )

order-kept : (needed : Needed) (types : List ℕ) (kernel : Kernel) → Each (IsBefore needed) types → KeepsOrder [] (placed 5 (insts_by needed types kernel))
order-kept needed types kernel all =
    let ids = ids_for needed in
    let front = front-free ids kernel in
    let entry = entry_spelled (entry_partner ids kernel) in (
      inl (free-places (spelled op.Capability (4 ∷ [])) 5 front.0),
      (
        inl (free-places (spelled op.Capability (6 ∷ [])) 7 front.1.0),
        (
          inl (free-places (spelled op.MemoryModel (2 ∷ 2 ∷ [])) 9 front.1.1.0),
          (
            inl (free-places entry 12 front.1.1.1.0),
            types-order needed _ (12 + (length entry.operands + 1)) types (function_inst ids ∷ tail_of ids kernel (block_insts ids kernel)) all (function-free ids kernel),
          ),
        ),
      ),
    )

pub partner-earlier : DeclarationsUseEarlierIds
partner-earlier kernel =
    of-listed (λ bound insts. places_behind (uses_later (placed 5 insts)) [] (placed 5 insts) ≡ []) kernel
    (λ needed types listed. in-order (placed 5 (insts_by needed types kernel)) [] (placed 5 (insts_by needed types kernel)) (order-kept needed types kernel listed.signature))
