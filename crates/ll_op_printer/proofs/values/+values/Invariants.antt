use Rattle.std.proofs.Common.{◌≡◌, ◌++◌, take}
use Rattle.ll_phrases.specs.Phrases.{each_behind, list_phrase, written}
use Rattle.ll_phrases.specs.ValuePhrases.{typed_phrase}
use Rattle.ll_op_printer.proofs.values.+values.Given as goal

abbrev pub invariant-push_values-loop-i : goal.invariant-push_values-loop-i
invariant-push_values-loop-i l = l.text.items ≡ l.initial.text.items ++ written (list_phrase (typed_phrase l.names) (take l.i l.values))

abbrev pub invariant-push_values_behind-loop-i : goal.invariant-push_values_behind-loop-i
invariant-push_values_behind-loop-i l = l.text.items ≡ l.initial.text.items ++ written (each_behind (typed_phrase l.names) (take l.i l.values))
