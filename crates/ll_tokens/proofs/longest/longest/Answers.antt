use Rattle.std.proofs.Common.{arith}
use Rattle.ll_tokens.specs.declared.kinds.TokenKind.TheVariants.{Label}
use Rattle.ll_tokens.proofs.Fronts.{all_kinds, better_more, longest_found}
use Rattle.ll_tokens.proofs.longest.longest.Goals as goal

pub loop-kind-preserved : goal.loop-kind-preserved
loop-kind-preserved c =
    better_more c.args.bytes.now all_kinds c.loop-kind.kind-index Label _ _ _ (omega arith) c.loop-kind.invariant c.token_len.ensures c.keep_longer-best.ensures

pub returns : goal.returns
returns c = longest_found c.args.bytes.now c.loop-kind.kind-index _ (omega arith) c.loop-kind.invariant
