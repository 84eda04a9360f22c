use Rattle.std.proofs.Common.{codes}
use Rattle.std.proofs.lemmas.Result.{err_from_is_err_and}
use Rattle.ll_parser.specs.Productions.{word}
use Rattle.ll_operands.specs.Parts.{word_part, ◌then◌}
use Rattle.ll_operands.proofs.Readings.{second_refused}
use Rattle.ll_memory_ops.specs.declared.opcodes.MemoryOpcode.TheVariants as opcode
use Rattle.ll_memory_ops.specs.AccessParts.{atomic_load_part, plain_load_part}
use Rattle.ll_memory_ops.proofs.AccessesRead.{atomic_behind}
use Rattle.ll_memory_ops.proofs.OperationsRead.{either_told, other_told}
use Rattle.ll_memory_ops.proofs.accesses.read_load.Goals as goal

pub returns-in_err-operation-in-Ok : goal.returns-in_err-operation-in-Ok
returns-in_err-operation-in-Ok c =
    let p = err_from_is_err_and c.from_residual.result c.from_residual.ensures.1 in
    rw p.1 (either_told (word (codes "atomic")) (word_part (codes "atomic") then atomic_load_part) plain_load_part _ _ _ p.2 (_, c.in-Ok.ensures.read) (second_refused (word_part (codes "atomic")) atomic_load_part _ _ _ c.in-Ok.ensures.read c.in_err-operation-in-Ok.ensures))

pub returns-in_ok-operation-in-Ok : goal.returns-in_ok-operation-in-Ok
returns-in_ok-operation-in-Ok c = atomic_behind opcode.Load _ _ _ _ _ _ c.in-Ok.ensures.read c.in_ok-operation-in-Ok.ensures

pub returns-in_err-operation-in-Err : goal.returns-in_err-operation-in-Err
returns-in_err-operation-in-Err c =
    let p = err_from_is_err_and c.from_residual-in_err-operation-in-Err.result c.from_residual-in_err-operation-in-Err.ensures.1 in
    rw p.1 (other_told (word (codes "atomic")) (word_part (codes "atomic") then atomic_load_part) plain_load_part _ _ _ p.2 c.in-Err.ensures.read c.in_err-operation-in-Err.ensures)
