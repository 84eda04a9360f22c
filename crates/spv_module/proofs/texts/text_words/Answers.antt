use Rattle.std.proofs.Common.{◌≡◌, ◌+◌, ◌*◌, ℕ, sym, arith}
use Rattle.std.proofs.lemmas.List.FromFn.{map-range_with_len_more}
use Rattle.spv_module.specs.Texts.{word_at}
use Rattle.spv_module.proofs.texts.text_words.Goals as goal

pub loop-k-preserved : goal.loop-k-preserved
loop-k-preserved c =
    let k = c.loop-k.k in
    let same : 0 + k ≡ k = omega arith in
    rw (c.in_ok-push.ensures.items, c.word_at.ensures, c.loop-k.invariant) (sym (map-range_with_len_more (λ (i : ℕ). word_at c.args.text.now (4 * i)) 0 k k same))
