use Rattle.std.proofs.Common.{length, sym, ◌∙◌, arith, rules}
use Rattle.ll_tokens.specs.Tokens.{behind_gap}
use Rattle.ll_tokens.proofs.Blanks.{behind_in_comment, behind_semicolon, behind_blank, behind_stops, behind_at_end}
use Rattle.ll_tokens.proofs.gaps.gap_len.Goals as goal
use Rattle.ll_tokens.proofs.gaps.gap_len.Goals.{then-in_comment, else-in_comment+then-byte-eq59, else-in_comment+else-byte-eq59+else-not-contains}

pub returns-then-not-contains-clause-behind : goal.returns-then-not-contains-clause-behind
returns-then-not-contains-clause-behind c =
    behind_stops _ _ c.loop-at.at _ c.loop-at-test.true c.if-in_comment.false c.if-byte-eq59.false (sym c.contains.ensures ∙ c.if-not-contains.true) c.loop-at.invariant

-- a byte inside a comment, a `;`, or a blank
pub loop-at-preserved : goal.loop-at-preserved
loop-at-preserved c = elim c.if-in_comment.branch [
  | then-in_comment w ↦ behind_in_comment _ _ c.loop-at.at _ c.loop-at-test.true (search rules) (rw w.if-in_comment.true at c.loop-at.invariant)
  | else-in_comment+then-byte-eq59 w ↦ behind_semicolon c.loop-at.in_comment _ _ c.loop-at.at _ c.loop-at-test.true w.if-in_comment.false w.if-byte-eq59.true w.in_comment-is c.loop-at.invariant
  | else-in_comment+else-byte-eq59+else-not-contains w ↦ behind_blank c.loop-at.in_comment _ _ c.loop-at.at _ c.loop-at-test.true w.if-in_comment.false w.if-byte-eq59.false (sym w.contains.ensures ∙ w.if-not-contains.false) w.in_comment-is c.loop-at.invariant
]

pub returns-clause-behind : goal.returns-clause-behind
returns-clause-behind c =
    behind_at_end c.loop-at.in_comment c.args.bytes.now c.loop-at.at (length c.args.bytes.now) (behind_gap c.args.bytes.now) (omega arith) (omega arith) c.loop-at.invariant
