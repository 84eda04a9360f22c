use Rattle.std.proofs.Common.{◌≡◌, ◌++◌, take}
use Rattle.ll_phrases.specs.Phrases.{each_phrase, written}
use Rattle.ll_phrases.specs.TypePhrases.{pointer_phrase}
use Rattle.ll_op_printer.proofs.types.push_pointers.Given as goal

abbrev pub invariant-loop-space : goal.invariant-loop-space
invariant-loop-space l = l.text.items ≡ l.initial.text.items ++ written (each_phrase pointer_phrase (take l.space-index l.spaces))
