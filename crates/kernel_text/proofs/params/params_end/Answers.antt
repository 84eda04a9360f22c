use Rattle.std.proofs.lemmas.Result.{err_from_is_err_and}
use Rattle.kernel_text.specs.declared.phrases.Phrase.TheVariants as phrase
use Rattle.kernel_text.specs.Parts.{NoComma, all_of, next_param, params_end}
use Rattle.kernel_text.proofs.ParamFacts.{more_params_rest, params_end_shape, params_end_join}
use Rattle.kernel_text.proofs.ReadFacts.{phrase_item, phrase_reads, phrase_fails, fails_first, fails_second, reads_two}
use Rattle.kernel_text.proofs.params.params_end.Goals as goal

pub returns-in_err-params : goal.returns-in_err-params
returns-in_err-params c =
    let p = err_from_is_err_and c.from_residual.result c.from_residual.ensures.1 in
    rw p.1 (fails_first (all_of next_param NoComma) (phrase_item phrase.BodyStart) params_end (λ ps. ps) (λ _. tt) params_end_shape _ _ _ p.2 c.in_err-params.ensures)

pub returns-in_err-rest : goal.returns-in_err-rest
returns-in_err-rest c =
    let p = err_from_is_err_and c.from_residual-in_err-rest.result c.from_residual-in_err-rest.ensures.1 in
    rw p.1 (fails_second (all_of next_param NoComma) (phrase_item phrase.BodyStart) params_end (λ ps. ps) (λ _. tt) params_end_shape more_params_rest _ _ _ _ _ _ _ p.2 c.in_ok-params.ensures (phrase_fails phrase.BodyStart _ _ c.in_err-rest.ensures))

pub returns : goal.returns
returns c =
    reads_two (all_of next_param NoComma) (phrase_item phrase.BodyStart) params_end (λ ps. ps) (λ _. tt) params_end_shape _ _ _ _ _ _ _ _ _ (λ names d. params_end_join names _ _ _ d) c.in_ok-params.ensures (phrase_reads phrase.BodyStart _ _ _ c.in_ok-rest.ensures)
