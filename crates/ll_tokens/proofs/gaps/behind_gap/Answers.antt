use Rattle.std.proofs.Common.{◌≡◌, ◌≤◌, length, drop, subst}
use Rattle.ll_tokens.specs.Tokens.{behind_gap}
use Rattle.ll_tokens.proofs.Blanks.{boundary_behind_gap}
use Rattle.ll_tokens.proofs.gaps.behind_gap.Goals as goal

pub range_from-requires : goal.range_from-requires
range_from-requires c = λ _.
    let same = c.as_bytes.ensures.value in
    boundary_behind_gap c.args.text.now c.gap_len.result c.utf8.text
    (subst (λ bs. c.gap_len.result ≤ length bs) same c.gap_len.ensures.in_range)
    (subst (λ bs. drop c.gap_len.result bs ≡ behind_gap bs) same c.gap_len.ensures.behind)
