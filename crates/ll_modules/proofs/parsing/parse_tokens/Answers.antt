use Rattle.std.proofs.lemmas.Result.{err_from_is_err_and}
use Rattle.ll_modules.proofs.CollectedRead.{module_read, module_told}
use Rattle.ll_modules.proofs.parsing.parse_tokens.Goals as goal

pub returns-in_err-kept : goal.returns-in_err-kept
returns-in_err-kept c =
    let p = err_from_is_err_and c.from_residual.result c.from_residual.ensures.1 in
    rw p.1 (module_told _ _ _ p.2 c.in_err-kept.ensures)

pub returns : goal.returns
returns c = module_read _ _ _ _ _ _ c.in_ok-kept.ensures c.in_ok-names.ensures.names c.in_ok-names.ensures.once c.module_of.ensures
