use Rattle.std.proofs.Common.{ap, sym, ◌∙◌, take}
use Rattle.spv_names.specs.Widths.{wide_words}
use Rattle.spv_names.proofs.WideLemmas.{has-wide}
use Rattle.spv_names.proofs.widths.has_wide.Goals as goal

pub returns : goal.returns
returns c =
    let before = take c.args.before c.args.insts.now in
    let inst = c.args.inst.now in
    c.are_wide_words.ensures ∙ (ap (wide_words before inst.op) c.as_slice.ensures ∙ sym (has-wide before inst))
