use Rattle.std.proofs.Common.{◌≡◌, ◌++◌, take}
use Rattle.ll_phrases.specs.Phrases.{each_phrase, written}
use Rattle.ll_printed.specs.ModulePhrases.{declaration_line}
use Rattle.ll_printer.proofs.items.push_declarations.Given as goal

abbrev pub invariant-loop-i : goal.invariant-loop-i
invariant-loop-i l = l.text.items ≡ l.initial.text.items ++ written (each_phrase (declaration_line l.names) (take l.i l.heads))
