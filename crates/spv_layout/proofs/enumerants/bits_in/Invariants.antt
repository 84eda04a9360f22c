use Rattle.std.proofs.Common.{◌≡◌, take, bit_or}
use Rattle.std.specs.Prelude.{fold}
use Rattle.spv_layout.proofs.enumerants.bits_in.Given as goal

abbrev pub invariant-loop-enumerant : goal.invariant-loop-enumerant
invariant-loop-enumerant l =
    l.bits ≡ fold (λ bits enumerant. bit_or bits enumerant.value) 0 (take l.enumerant-index l.enumerants)
