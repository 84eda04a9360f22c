use Rattle.std.proofs.Common.{refl}
use Rattle.spv_play.proofs.acts_are_known.Goals as goal

pub returns : goal.returns
returns c = record {
  op_61 = refl;
  op_62 = refl;
  op_253 = refl;
  op_128 = refl;
  op_130 = refl;
  op_132 = refl;
  op_134 = refl;
  op_135 = refl;
  op_137 = refl;
  op_138 = refl;
  op_194 = refl;
  op_195 = refl;
  op_196 = refl;
  op_197 = refl;
  op_198 = refl;
  op_199 = refl;
  op_255 = refl;
  with_constant = refl;
  with_words = refl;
  with_null = refl;
  of_other_type = refl;
  loads = refl;
  loads_volatile = refl;
  loads_aligned = refl;
  loads_both = refl;
  loads_nontemporal = refl;
  loads_number = refl;
  loads_built_in = refl;
  stores = refl;
  stores_natural = refl;
  returns = refl;
}
