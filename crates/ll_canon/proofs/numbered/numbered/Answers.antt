use Rattle.std.proofs.Common.{◌∙◌, ap, map, List, ℕ}
use Rattle.kernel_tree.specs.declared.kernel.KernelInst.{KernelInst}
use Rattle.kernel_tree.specs.declared.kernel.KernelParam.{KernelParam}
use Rattle.kernel_tree.specs.Canonical.{inst_aligned, inst_numbered, param_numbered}
use Rattle.ll_canon.proofs.CanonicalMade.{canonical-made, names_with}
use Rattle.ll_canon.proofs.numbered.numbered.Goals as goal

pub returns : goal.returns
returns c =
    let numbers = c.args.places.now in
    canonical-made c.args.kernel.now numbers _ _ _ _ c.requires
    (c.in_ok-params.ensures ∙ ap (λ (xs : List KernelParam). map (param_numbered numbers) xs) c.as_slice.ensures)
    c.in_ok-name.ensures
    (c.in_ok-insts.ensures ∙ ap (λ (xs : List KernelInst). map (inst_numbered numbers) (map inst_aligned xs)) c.as_slice-2.ensures)
    (c.in_ok-names.ensures ∙ ap (λ (n : ℕ). names_with c.args.kernel.now n) c.len.ensures)
