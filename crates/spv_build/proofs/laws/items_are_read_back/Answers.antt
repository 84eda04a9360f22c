use Rattle.std.proofs.Common.{refl}
use Rattle.spv_build.proofs.ReadBack.{decorations, constants, variables}
use Rattle.spv_build.proofs.laws.items_are_read_back.Goals as goal

pub returns : goal.returns
returns c = record {
  capabilities = λ capability. refl;
  memory_models = λ model. refl;
  modes = λ function mode. refl;
  sources = λ source. refl;
  decorations = decorations;
  decoration_groups = λ group. refl;
  groups = λ group. refl;
  constants = constants;
  variables = variables;
  params = λ param. refl;
}
