use Rattle.std.proofs.Common.{◌≡◌, ◌++◌, take, flat_map}
use Rattle.kernel_tree.specs.Text.{inst_text}
use Rattle.kernel_printer.proofs.insts.push_insts.Given as goal

abbrev pub invariant-loop-inst : goal.invariant-loop-inst
invariant-loop-inst l = l.text.items ≡ l.initial.text.items ++ flat_map inst_text (take l.inst-index l.insts)
