use Rattle.std.proofs.Common.{◌≡◌, take}
use Rattle.std.specs.String.{string_bytes}
use Rattle.kern_events.specs.Texts.{numbers_text}
use Rattle.kern_events.proofs.parts.numbers_text.Given as goal

abbrev pub invariant-loop-i : goal.invariant-loop-i
invariant-loop-i l = string_bytes l.text ≡ numbers_text (take l.i l.lanes)
