use Rattle.std.proofs.lemmas.Result.{err_from_is_err_and}
use Rattle.ll_insts.proofs.OperationFacts.{call_read, call_refused, flow_read, flow_refused, memory_read, memory_refused, none_left, value_read, value_refused}
use Rattle.ll_insts.proofs.operations.read_operation.Goals as goal

pub returns-in_err-op : goal.returns-in_err-op
returns-in_err-op c =
    let p = err_from_is_err_and c.from_residual.result c.from_residual.ensures.1 in
    rw p.1 (value_refused _ _ _ p.2 c.in_err-op.ensures)

pub returns-in-Some : goal.returns-in-Some
returns-in-Some c = value_read _ _ _ _ _ (rw c.in-Some.is at c.in_ok-op.ensures)

pub returns-in_err-op-2 : goal.returns-in_err-op-2
returns-in_err-op-2 c =
    let p = err_from_is_err_and c.from_residual-in_err-op-2.result c.from_residual-in_err-op-2.ensures.1 in
    let none = rw c.in_default.is at c.in_ok-op.ensures in
    rw p.1 (flow_refused _ _ _ p.2 none.1 c.in_err-op-2.ensures)

pub returns-in-Some-2 : goal.returns-in-Some-2
returns-in-Some-2 c =
    let none = rw c.in_default.is at c.in_ok-op.ensures in
    flow_read _ _ _ _ _ _ none.0 (rw c.in-Some-2.is at c.in_ok-op-2.ensures)

pub returns-in_err-op-3 : goal.returns-in_err-op-3
returns-in_err-op-3 c =
    let p = err_from_is_err_and c.from_residual-in_err-op-3.result c.from_residual-in_err-op-3.ensures.1 in
    let none = rw c.in_default.is at c.in_ok-op.ensures in
    let none_2 = rw c.in_default-2.is at c.in_ok-op-2.ensures in
    rw p.1 (memory_refused _ _ _ p.2 none.1 none_2.1 c.in_err-op-3.ensures)

pub returns-in-Some-3 : goal.returns-in-Some-3
returns-in-Some-3 c =
    let none = rw c.in_default.is at c.in_ok-op.ensures in
    let none_2 = rw c.in_default-2.is at c.in_ok-op-2.ensures in
    memory_read _ _ _ _ _ _ _ none.0 none_2.0 (rw c.in-Some-3.is at c.in_ok-op-3.ensures)

pub returns-in_err-op-4 : goal.returns-in_err-op-4
returns-in_err-op-4 c =
    let p = err_from_is_err_and c.from_residual-in_err-op-4.result c.from_residual-in_err-op-4.ensures.1 in
    let none = rw c.in_default.is at c.in_ok-op.ensures in
    let none_2 = rw c.in_default-2.is at c.in_ok-op-2.ensures in
    let none_3 = rw c.in_default-3.is at c.in_ok-op-3.ensures in
    rw p.1 (call_refused _ _ _ p.2 none.1 none_2.1 none_3.1 c.in_err-op-4.ensures)

pub returns-in-Some-4 : goal.returns-in-Some-4
returns-in-Some-4 c =
    let none = rw c.in_default.is at c.in_ok-op.ensures in
    let none_2 = rw c.in_default-2.is at c.in_ok-op-2.ensures in
    let none_3 = rw c.in_default-3.is at c.in_ok-op-3.ensures in
    call_read _ _ _ _ _ _ _ _ none.0 none_2.0 none_3.0 (rw c.in-Some-4.is at c.in_ok-op-4.ensures)

pub returns : goal.returns
returns c =
    let none = rw c.in_default.is at c.in_ok-op.ensures in
    let none_2 = rw c.in_default-2.is at c.in_ok-op-2.ensures in
    let none_3 = rw c.in_default-3.is at c.in_ok-op-3.ensures in
    let none_4 = rw c.in_default-4.is at c.in_ok-op-4.ensures in
    none_left _ _ none.1 none_2.1 none_3.1 none_4.1 c.unexpected.ensures
