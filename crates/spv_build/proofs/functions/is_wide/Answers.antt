use Rattle.std.proofs.Common.{ap, ◌∙◌, arith}
use Rattle.std.proofs.lemmas.List.{take_all}
use Rattle.spv_names.specs.Uses.{has_wide}
use Rattle.spv_build.proofs.functions.is_wide.Goals as goal

pub returns : goal.returns
returns c =
    let insts = c.args.insts.now in
    c.has_wide.ensures ∙ ap (λ xs. has_wide xs c.args.inst.now) (take_all _ insts (omega arith))
