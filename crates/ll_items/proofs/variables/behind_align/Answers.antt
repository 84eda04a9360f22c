use Rattle.ll_tokens.specs.Tokens.{lexemes_of}
use Rattle.ll_items.proofs.VariablesRead.{comma_align, no_comma}
use Rattle.ll_items.proofs.variables.behind_align.Goals as goal

pub returns-in-Ok : goal.returns-in-Ok
returns-in-Ok c = comma_align (λ r. lexemes_of r.now) _ _ _ c.in-Ok.ensures.read c.behind_word.ensures

pub returns-in-Err : goal.returns-in-Err
returns-in-Err c = no_comma _ c.in-Err.ensures.read
