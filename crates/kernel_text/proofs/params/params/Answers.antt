use Rattle.ll_tokens.specs.Tokens.{lexemes_of}
use Rattle.kernel_text.proofs.ParamFacts.{no_params_answer, params_answer}
use Rattle.kernel_text.proofs.params.params.Goals as goal

pub returns-in-Ok : goal.returns-in-Ok
returns-in-Ok c =
    rw c.new.ensures (no_params_answer _ _ _ c.in-Ok.ensures)

pub returns-in-Err : goal.returns-in-Err
returns-in-Err c =
    params_answer (λ x. x.0) (λ x. lexemes_of x.1.now) _ _ _ _ c.some_params.result c.in-Err.ensures c.some_params.ensures
