use Rattle.std.proofs.lemmas.Result.{err_from_is_err_and}
use Rattle.std.proofs.Common.{ap, ◌∙◌, ◌++◌, [], ◌∷◌}
use Rattle.kernel_text.proofs.ParamFacts.{some_fails_in_first, some_fails_in_more, some_read}
use Rattle.kernel_text.proofs.params.some_params.Goals as goal

pub returns-in_err-first : goal.returns-in_err-first
returns-in_err-first c =
    let p = err_from_is_err_and c.from_residual.result c.from_residual.ensures.1 in
    rw p.1 (some_fails_in_first _ _ _ p.2 c.in_err-first.ensures)

pub returns-in_err-more : goal.returns-in_err-more
returns-in_err-more c =
    let p = err_from_is_err_and c.from_residual-in_err-more.result c.from_residual-in_err-more.ensures.1 in
    rw p.1 (some_fails_in_more _ _ _ _ _ _ _ p.2 c.in_ok-first.ensures c.in_err-more.ensures)

pub returns : goal.returns
returns c =
    some_read _ _ _ _ _ _ _ _ _ (c.in_ok-append.ensures ∙ ap (λ ps. ps ++ c.in_ok-more.more) (c.in_ok-push.ensures.ok ∙ ap (λ ps. ps ++ c.in_ok-first.first ∷ []) c.new-params.ensures)) c.in_ok-first.ensures c.in_ok-more.ensures
