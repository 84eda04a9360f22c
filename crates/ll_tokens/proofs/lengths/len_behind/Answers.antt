use Rattle.std.proofs.Common.{◌≤◌, IfSome, Some, length, subst, sym, arith}
use Rattle.ll_tokens.specs.Reach.{body_form}
use Rattle.ll_tokens.proofs.Reaches.{reach_le}
use Rattle.ll_tokens.proofs.lengths.len_behind.Goals as goal

pub overflow_add-result : goal.overflow_add-result
overflow_add-result c =
    let le : IfSome (Some c.in_ok-len.len) (λ n. n ≤ length c.in_ok-rest.rest.now) = subst (λ o. IfSome o (λ n. n ≤ length c.in_ok-rest.rest.now)) (sym c.in_ok-len.ensures) (reach_le (body_form c.args.body) c.in_ok-rest.rest.now) in
    omega (arith, le, c.in_ok-rest.ensures.shorter)
