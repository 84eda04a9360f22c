-- Modules that are the same but for the order of their bytes, by comparison.
use Rattle.std.specs.Prelude.{◌==◌, Bool, ◌&&◌}
use Rattle.std.specs.Str.{bytes_eq}
use Rattle.std.specs.Cmp.Lexicographic.{pointwise}
use Rattle.spv_codec.specs.declared.module.RawInst.{RawInst}
use Rattle.spv_codec.specs.declared.module.RawModule.{RawModule}

abbrev pub same_inst : RawInst → RawInst → Bool
same_inst inst other = inst.op == other.op && (inst.place == other.place && bytes_eq inst.operands other.operands)

abbrev pub same_module : RawModule → RawModule → Bool
same_module raw made =
    raw.version == made.version && (raw.generator == made.generator && (raw.bound == made.bound && pointwise same_inst raw.insts made.insts))
