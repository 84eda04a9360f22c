use Rattle.std.proofs.Common.{◌≡◌, ◌++◌, take}
use Rattle.ll_phrases.specs.Phrases.{list_phrase, written}
use Rattle.ll_printed.specs.FunctionPhrases.{param_phrase}
use Rattle.ll_printer.proofs.heads.push_params.Given as goal

abbrev pub invariant-loop-i : goal.invariant-loop-i
invariant-loop-i l = l.text.items ≡ l.initial.text.items ++ written (list_phrase (param_phrase l.names) (take l.i l.params))
