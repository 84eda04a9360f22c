use Rattle.std.proofs.Common.{◌≡◌, ◌++◌, take}
use Rattle.ll_phrases.specs.Phrases.{each_phrase, written}
use Rattle.ll_printed.specs.OpPhrases.{case_phrase}
use Rattle.ll_op_printer.proofs.operands.push_each_case.Given as goal

abbrev pub invariant-loop-i : goal.invariant-loop-i
invariant-loop-i l = l.text.items ≡ l.initial.text.items ++ written (each_phrase (case_phrase l.names) (take l.i l.cases))
