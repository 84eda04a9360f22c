use Rattle.ll_tokens.specs.Tokens.{lexemes_of}
use Rattle.ll_attributes.proofs.SkipsRead.{value_behind}
use Rattle.ll_attributes.proofs.function_attributes.skip_value.Goals as goal

pub returns-in-Ok : goal.returns-in-Ok
returns-in-Ok c = value_behind (λ r. lexemes_of r.now) _ _ c.skip_text.result c.in-Ok.ensures.read c.skip_text.ensures
