use Rattle.std.proofs.Common.{◌≡◌, ◌-◌, ◌^◌, ◌++◌, length, take}
use Rattle.kern_lanes.specs.Widths.{bits_of}
use Rattle.kern_lanes.specs.Regrouping.{digits}
use Rattle.kern_lanes.proofs.regrouping.split.Given as goal

abbrev pub invariant-loop-part : goal.invariant-loop-part
invariant-loop-part l = record {
  base_is : l.base ≡ 2 ^ bits_of l.fn.to;
  kept : take l.part-index l.out ++ digits (bits_of l.fn.to) (length l.out - l.part-index) l.rest ≡ digits (bits_of l.fn.to) (length l.out) l.fn.a;
}
