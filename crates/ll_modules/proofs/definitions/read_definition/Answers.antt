use Rattle.std.proofs.lemmas.Result.{err_from_is_err_and}
use Rattle.ll_operands.proofs.Readings.{first_refused, told_as}
use Rattle.ll_heads.specs.HeadParts.{definition_part}
use Rattle.ll_insts.specs.InstParts.{blocks_part}
use Rattle.ll_modules.specs.Definitions.{whole_definition_part}
use Rattle.ll_modules.proofs.DefinitionsRead.{blocks_told, definition_read}
use Rattle.ll_modules.proofs.definitions.read_definition.Goals as goal

pub returns-in_err-start : goal.returns-in_err-start
returns-in_err-start c =
    let p = err_from_is_err_and c.from_residual.result c.from_residual.ensures.1 in
    rw p.1 (told_as whole_definition_part _ _ _ p.2 (first_refused definition_part blocks_part _ _ c.in_err-start.ensures))

pub returns-in_err-blocks : goal.returns-in_err-blocks
returns-in_err-blocks c =
    let p = err_from_is_err_and c.from_residual-in_err-blocks.result c.from_residual-in_err-blocks.ensures.1 in
    rw p.1 (blocks_told _ _ _ _ _ _ _ p.2 c.in_ok-start.ensures c.in_err-blocks.ensures)

pub returns : goal.returns
returns c = definition_read _ _ _ _ _ _ _ _ _ c.in_ok-start.ensures c.in_ok-blocks.ensures c.in_ok-definition.ensures
