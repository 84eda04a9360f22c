use Rattle.std.proofs.Common.{refl}
use Rattle.std.proofs.lemmas.Result.{err_from_is_err_and}
use Rattle.ll_parser.specs.Productions.{mark}
use Rattle.ll_operands.specs.Parts.{repeated}
use Rattle.ll_operands.proofs.ItemsRead.{item_fewer, none_yet, one_more, repeated_refused, so_far_times}
use Rattle.ll_operands.proofs.Readings.{told_as}
use Rattle.ll_calls.specs.CallParts.{next_argument, next_argument_part}
use Rattle.ll_calls.proofs.ArgumentsRead.{more_read}
use Rattle.ll_calls.proofs.PartsDerived.{next_is_part, next_shortens}
use Rattle.ll_calls.proofs.arguments.read_more_arguments.Goals as goal

pub loop-arguments-init : goal.loop-arguments-init
loop-arguments-init c = none_yet next_argument next_shortens _ _ _ _ refl

pub returns-in_err-argument : goal.returns-in_err-argument
returns-in_err-argument c =
    let p = err_from_is_err_and c.from_residual.result c.from_residual.ensures.1 in
    rw p.1 (told_as (repeated (mark 44) next_argument_part) _ _ _ p.2
    (repeated_refused (mark 44) next_argument_part _ _ _ (so_far_times next_argument next_shortens next_argument_part next_is_part _ _ _ _ _ _ _ c.loop-arguments.invariant c.last.ensures) c.in_err-argument.ensures))

pub loop-arguments-smaller : goal.loop-arguments-smaller
loop-arguments-smaller c =
    let one = rw c.in-Some.is at c.in_ok-argument.ensures in item_fewer next_argument next_shortens _ _ _ _ _ _ _ _ _ _ c.loop-arguments.invariant c.last.ensures one

pub loop-arguments-preserved : goal.loop-arguments-preserved
loop-arguments-preserved c =
    let one = rw c.in-Some.is at c.in_ok-argument.ensures in one_more next_argument next_shortens _ _ _ _ _ _ _ _ _ _ _ _ c.loop-arguments.invariant c.last.ensures one c.in_ok-push_argument.ensures refl

pub returns : goal.returns
returns c =
    let none = rw c.in_default.is at c.in_ok-argument.ensures in
    more_read _ _ _ _ _ _ _ _ _ none.0 c.loop-arguments.invariant c.last.ensures c.last-2.ensures none.1
