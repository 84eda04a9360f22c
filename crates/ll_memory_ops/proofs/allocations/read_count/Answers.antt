use Rattle.std.specs.Int.{w128}
use Rattle.std.proofs.Common.{FitsSigned, inr, rules}
use Rattle.std.proofs.lemmas.Int.{to_z-of_z}
use Rattle.std.proofs.lemmas.Result.{err_from_is_err_and}
use Rattle.ll_types.specs.TypeParts.{ty_here}
use Rattle.ll_types.proofs.MembersRead.{derived}
use Rattle.ll_operands.proofs.Readings.{told_as, told_refusal, type_refused, type_refused_first}
use Rattle.ll_memory_ops.specs.AllocationParts.{count_part, integer_part}
use Rattle.ll_memory_ops.proofs.AllocationsRead.{count_read, integer_refused}
use Rattle.ll_memory_ops.proofs.allocations.read_count.Goals as goal

pub returns-in_err-ty : goal.returns-in_err-ty
returns-in_err-ty c =
    let p = err_from_is_err_and c.from_residual.result c.from_residual.ensures.1 in
    rw p.1 (told_as count_part _ _ _ p.2 (type_refused_first integer_part _ _ (type_refused _ _ c.in_err-ty.ensures)))

pub returns-in_err-number : goal.returns-in_err-number
returns-in_err-number c =
    let p = err_from_is_err_and c.from_residual-in_err-number.result c.from_residual-in_err-number.ensures.1 in
    rw p.1 (told_refusal count_part _ _ _ p.2 (inr (_, _, _, derived ty_here _ _ _ _ _ c.in_ok-ty.ensures, integer_refused c.in_ok-ty.ty _ _ c.in_err-number.ensures.read c.in_err-number.ensures.place)))

pub returns : goal.returns
returns c = let fits : FitsSigned w128 c.in_ok-number.number = search rules in count_read _ _ _ _ _ _ _ _ (to_z-of_z w128 c.in_ok-number.number fits) c.in_ok-ty.ensures c.in_ok-number.ensures.read
