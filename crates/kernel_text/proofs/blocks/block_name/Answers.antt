use Rattle.ll_tokens.specs.Tokens.{lexemes_of}
use Rattle.kernel_text.proofs.BlockFacts.{label_answer, number_read}
use Rattle.kernel_text.proofs.blocks.block_name.Goals as goal

pub returns-then-is_of_kind : goal.returns-then-is_of_kind
returns-then-is_of_kind c =
    label_answer (λ x. x.0) (λ x. lexemes_of x.1.now) _ _ _ _ _ _ c.written_name.result c.in-Some.ensures (c.is_of_kind.ensures.0 c.if-is_of_kind.true) c.written_name.ensures

pub returns : goal.returns
returns c =
    number_read _ _ _ _ _ _ _ _ c.in-Some.ensures c.if-is_of_kind.false c.is_of_kind.ensures c.in_ok-number.ensures.entry c.number_of.ensures.kept
