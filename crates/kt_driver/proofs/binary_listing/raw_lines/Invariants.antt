use Rattle.std.proofs.Common.{◌≡◌, ◌++◌, take}
use Rattle.std.specs.List.{flat_map}
use Rattle.std.specs.String.{string_bytes}
use Rattle.kt_driver.specs.BinaryListings.{order_line, header_line, inst_line}
use Rattle.kt_driver.proofs.binary_listing.raw_lines.Given as goal

abbrev pub invariant-loop-inst : goal.invariant-loop-inst
invariant-loop-inst l =
    string_bytes l.lines ≡ order_line l.raw.order ++ (header_line l.raw ++ flat_map inst_line (take l.inst-index l.raw.insts))
