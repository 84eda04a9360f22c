use Rattle.std.proofs.Common.{◌∙◌, ap, ◌++◌, List, ℕ, flat_map}
use Rattle.kernel_tree.specs.declared.kernel.KernelInst.{KernelInst}
use Rattle.kernel_tree.specs.declared.kernel.KernelParam.{KernelParam}
use Rattle.kernel_tree.specs.Text.{targets_text, name_line, params_text, label_line, inst_text, end_lines}
use Rattle.kernel_printer.proofs.Joined.{joined}
use Rattle.kernel_printer.proofs.print.print_kernel.Goals as goal

pub returns : goal.returns
returns c =
    let kernel = c.args.kernel.now in
    joined (targets_text kernel.has_targets) (name_line kernel) (params_text kernel.params) (label_line kernel.block) (flat_map inst_text kernel.insts) end_lines
    _ _ _ _ _ c.in_ok-text.ensures
    (c.in_ok-push_params.ensures ∙ ap (λ (xs : List KernelParam). c.in_ok-text.text.items ++ params_text xs) c.as_slice.ensures)
    (c.in_ok-extend_from_slice.ensures.items ∙ ap (λ (x : List ℕ). c.push_params.new.text.items ++ x) (c.as_bytes.ensures.value ∙ c.in_ok-label.ensures))
    (c.in_ok-push_insts.ensures ∙ ap (λ (xs : List KernelInst). c.extend_from_slice.new.self.items ++ flat_map inst_text xs) c.as_slice-2.ensures) c.in_ok-extend_from_slice-2.ensures.items
