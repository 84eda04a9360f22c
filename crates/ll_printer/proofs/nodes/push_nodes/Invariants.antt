use Rattle.std.proofs.Common.{◌≡◌, ◌++◌, take}
use Rattle.ll_phrases.specs.Phrases.{each_phrase, written}
use Rattle.ll_printed.specs.ModulePhrases.{node_line}
use Rattle.ll_printer.proofs.nodes.push_nodes.Given as goal

abbrev pub invariant-loop-i : goal.invariant-loop-i
invariant-loop-i l = l.text.items ≡ l.initial.text.items ++ written (each_phrase (node_line l.names) (take l.i l.nodes))
