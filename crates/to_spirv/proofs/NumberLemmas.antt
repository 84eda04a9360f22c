-- Numbers of names, and the ids that they give.
use Rattle.std.proofs.Common.{◌≡◌, ℕ, List, [], ◌∷◌, ◌++◌, map, length, All, sym, arith, subst, length-append, zero, suc}
use Rattle.std.specs.Prelude.{◌+◌, ◌<◌, ◌≤◌, flat_map, None, Some, Bool, IsTrue}
use Prim.Native.Nat.{min}
use Rattle.std.specs.List.{range_with_len}
use Rattle.std.proofs.lemmas.List.{length-map}
use Rattle.std.proofs.lemmas.List.Elements.{All-nil, All-cons, All-head, All-tail, All-weaker}
use Rattle.kernel_tree.specs.declared.kernel.Kernel.{Kernel}
use Rattle.kernel_tree.specs.declared.kernel.KernelInst.{KernelInst}
use Rattle.kernel_tree.specs.declared.kernel.KernelInst.TheVariants.{Add, Load, Store}
use Rattle.kernel_tree.specs.declared.kernel.ValueType.TheVariants.{Int, Pointer}
use Rattle.kernel_tree.specs.declared.names.Definition.{Definition}
use Rattle.kernel_tree.specs.declared.names.Use.{Use}
use Rattle.kernel_tree.specs.Names.{definitions, uses, defined_by, used_by, param_definition}
use Rattle.kernel_tree.specs.Numbered.{IsNumbered, number_defined, number_used, definition_count}
use Rattle.to_spirv.specs.declared.ids.Ids.{Ids}
use Rattle.to_spirv.specs.Partner.{bound_over, bound_of, kernel_ids}
use Rattle.to_spirv.specs.Ranges.{EachNumber, HasId, HasIds}

-- what is true of a list is true of its parts
pub All-left : {X : Type 0} (P : X → Type 0) (xs ys : List X) → All P (xs ++ ys) → All P xs
All-left P [] ys all = All-nil P
All-left P (x ∷ xs) ys all = All-cons P x xs (All-head P x (xs ++ ys) all) (All-left P xs ys (All-tail P x (xs ++ ys) all))

pub All-right : {X : Type 0} (P : X → Type 0) (xs ys : List X) → All P (xs ++ ys) → All P ys
All-right P [] ys all = all
All-right P (x ∷ xs) ys all = All-right P xs ys (All-tail P x (xs ++ ys) all)

pub All-unmap : {X Y : Type 0} (P : Y → Type 0) (f : X → Y) (xs : List X) → All P (map f xs) → All (λ x. P (f x)) xs
All-unmap P f [] all = All-nil (λ x. P (f x))
All-unmap P f (x ∷ xs) all = All-cons (λ y. P (f y)) x xs (All-head P (f x) (map f xs) all) (All-unmap P f xs (All-tail P (f x) (map f xs) all))

range-below : (start n limit : ℕ) → start + n ≤ limit → All (λ k. k < limit) (range_with_len start n)
range-below start zero limit within = All-nil (λ k. k < limit)
range-below start (suc n) limit within =
    All-cons (λ k. k < limit) start (range_with_len (start + 1) n) (omega arith) (range-below (start + 1) n limit (omega arith))

-- the numbers of the names of instructions are among those that are defined and used
pub insts-numbered : (P : ℕ → Type 0) (insts : List KernelInst)
    → All (λ definition. P (number_defined definition)) (flat_map defined_by insts) → All (λ use_of. P (number_used use_of)) (flat_map used_by insts)
    → All (EachNumber P) insts
insts-numbered P [] defined used = All-nil (EachNumber P)
insts-numbered P (Add sum left right ∷ insts) defined used =
    let D : Definition → Type 0 = λ definition. P (number_defined definition) in
    let U : Use → Type 0 = λ use_of. P (number_used use_of) in
    let ds = flat_map defined_by insts in
    let us = flat_map used_by insts in
    let d : Definition = record { name = sum; value_type = Some Int } in
    let u : Use = record { name = left; value_type = Int } in
    let v : Use = record { name = right; value_type = Int } in
    let behind = All-tail U u (v ∷ us) used in
    All-cons (EachNumber P) (Add sum left right) insts
    (All-head D d ds defined, All-head U u (v ∷ us) used, All-head U v us behind)
    (insts-numbered P insts (All-tail D d ds defined) (All-tail U v us behind))
insts-numbered P (Load loaded pointer is_aligned ∷ insts) defined used =
    let D : Definition → Type 0 = λ definition. P (number_defined definition) in
    let U : Use → Type 0 = λ use_of. P (number_used use_of) in
    let ds = flat_map defined_by insts in
    let us = flat_map used_by insts in
    let d : Definition = record { name = loaded; value_type = Some Int } in
    let u : Use = record { name = pointer; value_type = Pointer } in
    All-cons (EachNumber P) (Load loaded pointer is_aligned) insts
    (All-head D d ds defined, All-head U u us used)
    (insts-numbered P insts (All-tail D d ds defined) (All-tail U u us used))
insts-numbered P (Store value pointer is_aligned ∷ insts) defined used =
    let U : Use → Type 0 = λ use_of. P (number_used use_of) in
    let us = flat_map used_by insts in
    let u : Use = record { name = value; value_type = Int } in
    let v : Use = record { name = pointer; value_type = Pointer } in
    let behind = All-tail U u (v ∷ us) used in
    All-cons (EachNumber P) (Store value pointer is_aligned) insts
    (All-head U u (v ∷ us) used, All-head U v us behind)
    (insts-numbered P insts defined (All-tail U v us behind))

-- the number of each name of a kernel
pub record NamesHave (P : ℕ → Type 0) (kernel : Kernel) : Type 0 where
  pub params : All (λ param. P param.name.number) kernel.params
  pub block : P kernel.block.number
  pub insts : All (EachNumber P) kernel.insts

-- what is true of all numbers up to that of the last definition is true of a kernel's names
pub numbered-names : (P : ℕ → Type 0) (kernel : Kernel) → IsNumbered kernel → ((n : ℕ) → n < definition_count kernel + 1 → P n) → NamesHave P kernel
numbered-names P kernel numbered within =
    let count = definition_count kernel in
    let D : Definition → Type 0 = λ definition. P (number_defined definition) in
    let numbers : All P (map number_defined (definitions kernel)) =
    subst (λ (ns : List ℕ). All P ns) (sym numbered.defined)
    (All-weaker (λ n. n < count + 1) P within (range_with_len 1 count) (range-below 1 count (count + 1) (omega arith))) in
    let all : All D (definitions kernel) = All-unmap P number_defined (definitions kernel) numbers in
    let block : Definition = record { name = kernel.block; value_type = None } in
    let above = All-left D (map param_definition kernel.params ++ block ∷ []) (flat_map defined_by kernel.insts) all in
    let used : All (λ use_of. P (number_used use_of)) (uses kernel) =
    All-weaker (λ use_of. number_used use_of < count + 1) (λ use_of. P (number_used use_of)) (λ use_of lt. within (number_used use_of) lt) (uses kernel) numbered.used in
    record {
      params = All-unmap D param_definition kernel.params (All-left D (map param_definition kernel.params) (block ∷ []) above);
      block = All-head D block [] (All-right D (map param_definition kernel.params) (block ∷ []) above);
      insts = insts-numbered P kernel.insts (All-right D (map param_definition kernel.params ++ block ∷ []) (flat_map defined_by kernel.insts) all) used;
    }

-- the ids of a kernel's names are words
pub numbered-ids : (ids : Ids) (kernel : Kernel) → IsNumbered kernel → bound_over ids kernel ≤ 0x3FFFFF → HasIds ids kernel
numbered-ids ids kernel numbered bound =
    let names = numbered-names (HasId ids) kernel numbered (λ n lt. omega arith) in
    record { params = names.params; block = names.block; insts = names.insts }

-- how many names a kernel defines
pub count-parts : (kernel : Kernel) → definition_count kernel ≡ length kernel.params + length (flat_map defined_by kernel.insts) + 1
count-parts kernel =
    let block : Definition = record { name = kernel.block; value_type = None } in
    let above = map param_definition kernel.params ++ block ∷ [] in
    omega (arith, length-append above (flat_map defined_by kernel.insts), length-append (map param_definition kernel.params) (block ∷ []), length-map kernel.params param_definition)

-- the test of the bound
pub bound-test : (kernel : Kernel) (function names : ℕ) (b : Bool) → function ≡ (kernel_ids kernel).function
    → names ≡ min (length kernel.params + length (flat_map defined_by kernel.insts)) 18446744073709551615
    → (IsTrue b → function + names + 2 ≤ 0x3FFFFF) × (function + names + 2 ≤ 0x3FFFFF → IsTrue b)
    → (IsTrue b → bound_of kernel ≤ 0x3FFFFF) × (bound_of kernel ≤ 0x3FFFFF → IsTrue b)
bound-test kernel function names b is names_are test =
    let count = count-parts kernel in
    let to : IsTrue b → bound_of kernel ≤ 0x3FFFFF = λ yes_b. let room = test.0 yes_b in omega arith in
    let back : bound_of kernel ≤ 0x3FFFFF → IsTrue b = λ within. test.1 (omega arith) in
    (to, back)
