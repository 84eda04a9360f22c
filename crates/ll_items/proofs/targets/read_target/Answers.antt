use Rattle.std.proofs.Common.{codes, inl, inr}
use Rattle.std.proofs.lemmas.Result.{err_from_is_err_and}
use Rattle.ll_parser.specs.GrammarItems.{target_word}
use Rattle.ll_operands.specs.Parts.{mark_part, one_word, ◌then◌, word_part}
use Rattle.ll_operands.proofs.Readings.{mark_refused, second_refused, told_as, told_refusal}
use Rattle.ll_items.specs.ItemParts.{target_item, text_part}
use Rattle.ll_items.proofs.ItemsRead.{target_read, word_at}
use Rattle.ll_items.proofs.targets.read_target.Goals as goal

pub returns-in_err-inside : goal.returns-in_err-inside
returns-in_err-inside c =
    let p = err_from_is_err_and c.from_residual-in_err-inside.result c.from_residual-in_err-inside.ensures.1 in
    rw p.1 (told_refusal target_item _ _ _ p.2 (inr (
      _,
      word_at (codes "target") _ _ _ c.in_ok-byte.ensures,
      inr (_, (c.in_ok-kind.kind, c.in_ok-kind.ensures), inl (mark_refused 61 _ _ c.in_err-inside.ensures.read c.in_err-inside.ensures.place)),
    )))

pub returns-in_err-text : goal.returns-in_err-text
returns-in_err-text c =
    let p = err_from_is_err_and c.from_residual-in_err-text.result c.from_residual-in_err-text.ensures.1 in
    rw p.1 (told_as target_item _ _ _ p.2 (second_refused (word_part (codes "target")) (one_word target_word then mark_part 61 then text_part) _ _ _ (word_at (codes "target") _ _ _ c.in_ok-byte.ensures)
    (second_refused (one_word target_word) (mark_part 61 then text_part) _ _ _ (c.in_ok-kind.kind, c.in_ok-kind.ensures)
    (second_refused (mark_part 61) text_part _ _ _ c.in_ok-inside.ensures.read c.in_err-text.ensures))))

pub returns : goal.returns
returns c = target_read _ _ _ _ _ _ _ _ c.in_ok-byte.ensures c.in_ok-kind.ensures c.in_ok-inside.ensures.read c.in_ok-text.ensures
