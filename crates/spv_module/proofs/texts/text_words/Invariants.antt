use Rattle.std.proofs.Common.{◌≡◌, ◌*◌, map}
use Rattle.std.specs.List.{range_with_len}
use Rattle.spv_module.specs.Texts.{word_at}
use Rattle.spv_module.proofs.texts.text_words.Given as goal

abbrev pub invariant-loop-k : goal.invariant-loop-k
invariant-loop-k l = l.words.items ≡ map (λ k. word_at l.text (4 * k)) (range_with_len 0 l.k)
