-- Alignments and target lines change no name.
use Rattle.std.proofs.Common.{◌≡◌, true, List, [], ◌∷◌, ◌++◌, map, flat_map, refl, ap}
use Rattle.kernel_tree.specs.declared.kernel.Kernel.{Kernel}
use Rattle.kernel_tree.specs.declared.kernel.KernelInst.{KernelInst}
use Rattle.kernel_tree.specs.declared.kernel.KernelInst.TheVariants.{Add, Load, Store}
use Rattle.kernel_tree.specs.declared.names.Definition.{Definition}
use Rattle.kernel_tree.specs.declared.names.Use.{Use}
use Rattle.kernel_tree.specs.Canonical.{aligned, inst_aligned, with_targets}
use Rattle.kernel_tree.specs.Names.{defined_above, defined_by, definitions, used_by}

pub defined_by-aligned : (insts : List KernelInst) → flat_map defined_by (map inst_aligned insts) ≡ flat_map defined_by insts
defined_by-aligned [] = refl
defined_by-aligned (Add sum left right ∷ insts) = ap (λ (ds : List Definition). defined_by (Add sum left right) ++ ds) (defined_by-aligned insts)
defined_by-aligned (Load loaded pointer is_aligned ∷ insts) = ap (λ (ds : List Definition). defined_by (Load loaded pointer true) ++ ds) (defined_by-aligned insts)
defined_by-aligned (Store value pointer is_aligned ∷ insts) = defined_by-aligned insts

pub definitions-aligned : (kernel : Kernel) → definitions (aligned (with_targets kernel)) ≡ definitions kernel
definitions-aligned kernel =
    ap (λ (ds : List Definition). defined_above kernel ++ ds) (defined_by-aligned kernel.insts)

pub used_by-aligned : (insts : List KernelInst) → flat_map used_by (map inst_aligned insts) ≡ flat_map used_by insts
used_by-aligned [] = refl
used_by-aligned (Add sum left right ∷ insts) = ap (λ (us : List Use). used_by (Add sum left right) ++ us) (used_by-aligned insts)
used_by-aligned (Load loaded pointer is_aligned ∷ insts) = ap (λ (us : List Use). used_by (Load loaded pointer true) ++ us) (used_by-aligned insts)
used_by-aligned (Store value pointer is_aligned ∷ insts) = ap (λ (us : List Use). used_by (Store value pointer true) ++ us) (used_by-aligned insts)
