-- When two kernels are the same but for the numbers that their tables give to names (LLVM 14, Identifiers).
use Rattle.std.specs.Prelude.{◌≡◌, ℕ, List, [], ◌∷◌, Some, slice_get}
use Rattle.ll_tree.specs.declared.name.Name.{Name}
use Rattle.ll_tree.specs.declared.name.NameText.{NameText}
use Rattle.kernel_tree.specs.declared.kernel.Kernel.{Kernel}
use Rattle.kernel_tree.specs.declared.kernel.KernelInst.{KernelInst}
use Rattle.kernel_tree.specs.declared.kernel.KernelInst.TheVariants.{Add, Load, Store}
use Rattle.kernel_tree.specs.declared.kernel.KernelParam.{KernelParam}

-- lists of one length whose members are related, each with its partner
abbrev pub Pairwise : {A : Type 0} → (A → A → Type 0) → List A → List A → Type 0
Pairwise R [] [] = Unit {0}
Pairwise R [] (y ∷ ys) = ⊥
Pairwise R (x ∷ xs) [] = ⊥
Pairwise R (x ∷ xs) (y ∷ ys) = R x y × Pairwise R xs ys

-- each entry of a table stands in it once
abbrev pub HasOnce : List NameText → Type 0
HasOnce names = (i j : ℕ) (entry : NameText) → slice_get names i ≡ Some entry → slice_get names j ≡ Some entry → i ≡ j

module _ (names others : List NameText) where
  -- the names stand at one place, and are spelled alike
  pub record IsSameName (name other : Name) : Type 0 where
    pub entry : NameText
    pub named : slice_get names name.number ≡ Some entry
    pub also_named : slice_get others other.number ≡ Some entry
    pub placed : name.byte ≡ other.byte

  abbrev pub IsSameParam : KernelParam → KernelParam → Type 0
  IsSameParam param other = (param.value_type ≡ other.value_type) × IsSameName param.name other.name

  abbrev pub IsSameInst : KernelInst → KernelInst → Type 0
  IsSameInst (Add sum left right) (Add sum' left' right') = IsSameName sum sum' × IsSameName left left' × IsSameName right right'
  IsSameInst (Load loaded pointer is_aligned) (Load loaded' pointer' is_aligned') =
      IsSameName loaded loaded' × IsSameName pointer pointer' × (is_aligned ≡ is_aligned')
  IsSameInst (Store value pointer is_aligned) (Store value' pointer' is_aligned') =
      IsSameName value value' × IsSameName pointer pointer' × (is_aligned ≡ is_aligned')
  IsSameInst _ _ = ⊥

pub record IsSameKernel (kernel other : Kernel) : Type 0 where
  pub targets : kernel.has_targets ≡ other.has_targets
  pub name : IsSameName kernel.names other.names kernel.name other.name
  pub params : Pairwise (IsSameParam kernel.names other.names) kernel.params other.params
  pub block : IsSameName kernel.names other.names kernel.block other.block
  pub insts : Pairwise (IsSameInst kernel.names other.names) kernel.insts other.insts
