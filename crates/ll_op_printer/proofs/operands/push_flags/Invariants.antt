use Rattle.std.proofs.Common.{◌≡◌, ◌++◌, take}
use Rattle.ll_phrases.specs.Phrases.{each_phrase, written}
use Rattle.ll_printed.specs.OpPhrases.{flag_phrase}
use Rattle.ll_op_printer.proofs.operands.push_flags.Given as goal

abbrev pub invariant-loop-flag : goal.invariant-loop-flag
invariant-loop-flag l = l.text.items ≡ l.initial.text.items ++ written (each_phrase flag_phrase (take l.flag-index l.flags))
