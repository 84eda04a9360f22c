use Rattle.std.proofs.lemmas.Result.{err_from_is_err_and}
use Rattle.ll_value_ops.specs.declared.opcodes.ValueOpcode.TheVariants as opcode
use Rattle.ll_value_ops.proofs.OperationsRead.{element_read, insertion_read, read_at, selection_read, shuffle_read, told_at}
use Rattle.ll_value_ops.proofs.operations.read_behind.Goals as goal

pub returns-in_err-operands-in-ExtractElement : goal.returns-in_err-operands-in-ExtractElement
returns-in_err-operands-in-ExtractElement c =
    let p = err_from_is_err_and c.from_residual.result c.from_residual.ensures.1 in
    rw p.1 (told_at _ opcode.ExtractElement _ _ _ c.in-ExtractElement.is p.2 c.in_err-operands-in-ExtractElement.ensures)

pub returns-in_ok-operands-in-ExtractElement : goal.returns-in_ok-operands-in-ExtractElement
returns-in_ok-operands-in-ExtractElement c =
    read_at _ _ _ _ _ _ _ c.in-ExtractElement.is (element_read _ _ _ _ _ _ c.element_of.ensures c.in_ok-operands-in-ExtractElement.ensures)

pub returns-in_ok-operands-in-Select : goal.returns-in_ok-operands-in-Select
returns-in_ok-operands-in-Select c =
    read_at _ _ _ _ _ _ _ c.in-Select.is (selection_read _ _ _ _ _ _ c.selection_of.ensures c.in_ok-operands-in-Select.ensures)

pub returns-in_ok-operands-in-InsertElement : goal.returns-in_ok-operands-in-InsertElement
returns-in_ok-operands-in-InsertElement c =
    read_at _ _ _ _ _ _ _ c.in-InsertElement.is (insertion_read _ _ _ _ _ _ c.insertion_of.ensures c.in_ok-operands-in-InsertElement.ensures)

pub returns-in_ok-operands-in-ShuffleVector : goal.returns-in_ok-operands-in-ShuffleVector
returns-in_ok-operands-in-ShuffleVector c =
    read_at _ _ _ _ _ _ _ c.in-ShuffleVector.is (shuffle_read _ _ _ _ _ _ c.shuffle_of.ensures c.in_ok-operands-in-ShuffleVector.ensures)
