use Rattle.std.proofs.Common.{◌≡◌, ◌++◌, take}
use Rattle.ll_phrases.specs.Phrases.{list_phrase, written}
use Rattle.ll_printed.specs.ModulePhrases.{part_phrase}
use Rattle.ll_printer.proofs.nodes.push_parts.Given as goal

abbrev pub invariant-loop-i : goal.invariant-loop-i
invariant-loop-i l = l.text.items ≡ l.initial.text.items ++ written (list_phrase (part_phrase l.names) (take l.i l.parts))
