use Rattle.ll_tokens.specs.Tokens.{lexemes_of}
use Rattle.ll_operands.proofs.Readings.{comma_told}
use Rattle.ll_operands.proofs.words.take_operand_comma.Goals as goal

pub returns-in-Ok : goal.returns-in-Ok
returns-in-Ok c = comma_told (λ r. lexemes_of r.now) _ _ _ c.in-Ok.ensures.read c.unless_name.ensures

pub returns-in-Err : goal.returns-in-Err
returns-in-Err c = λ rest d. c.in-Err.ensures.read rest d.0
