use Rattle.std.proofs.Common.{◌≡◌, ◌++◌, take}
use Rattle.ll_phrases.specs.Phrases.{list_phrase, written}
use Rattle.ll_phrases.specs.TypePhrases.{type_phrase}
use Rattle.ll_op_printer.proofs.types.+types.Given as goal

abbrev pub invariant-push_types-loop-i : goal.invariant-push_types-loop-i
invariant-push_types-loop-i l = l.text.items ≡ l.initial.text.items ++ written (list_phrase (type_phrase l.names) (take l.i l.types))
