use Rattle.std.proofs.Common.{◌≡◌, ◌+◌, ◌*◌, ◌^◌, drop}
use Rattle.kern_lanes.specs.Widths.{bits_of}
use Rattle.kern_lanes.specs.Regrouping.{from_digits}
use Rattle.kern_lanes.proofs.regrouping.join.Given as goal

abbrev pub invariant-loop-part : goal.invariant-loop-part
invariant-loop-part l = record {
  base_is : l.base ≡ 2 ^ bits_of l.fn.to;
  scale_is : l.scale ≡ 2 ^ (bits_of l.fn.to * l.part-index);
  kept : l.number + from_digits (bits_of l.fn.to) (drop l.part-index l.parts) * l.scale ≡ from_digits (bits_of l.fn.to) l.parts;
}
