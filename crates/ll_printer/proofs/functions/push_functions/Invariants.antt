use Rattle.std.proofs.Common.{◌≡◌, ◌++◌, take}
use Rattle.std.specs.List.{zip}
use Rattle.ll_phrases.specs.Phrases.{each_phrase, written}
use Rattle.ll_printed.specs.ModulePhrases.{function_phrase}
use Rattle.ll_printer.proofs.functions.push_functions.Given as goal

abbrev pub invariant-loop-i : goal.invariant-loop-i
invariant-loop-i l = l.text.items ≡ l.initial.text.items ++ written (each_phrase (function_phrase l.names) (take l.i (zip l.functions l.bodies)))
