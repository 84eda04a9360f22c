use Rattle.std.proofs.Common.{◌≡◌, take}
use Rattle.spv_words.specs.Words.{words_bytes}
use Rattle.spv_words.proofs.words.put_words.Given as goal

-- the bytes so far are those of the words so far
abbrev pub invariant-loop-word : goal.invariant-loop-word
invariant-loop-word l = l.bytes.items ≡ words_bytes l.order (take l.word-index l.words)
