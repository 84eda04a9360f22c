-- The words of a text (SPIR-V 1.2, 2.2.1 "Literal String"): its bytes in order, the first one lowest in its word, a zero byte behind them,
-- and zero bytes up to the end of the word.
use Rattle.std.specs.Prelude.{ℕ, ◌+◌, ◌*◌, ◌/◌, List, length, map, get_or}
use Rattle.std.specs.List.{range_with_len}

-- the word whose lowest byte stands at a place of the text
abbrev pub word_at : List ℕ → ℕ → ℕ
word_at text at = get_or text at 0 + 256 * get_or text (at + 1) 0 + 65536 * get_or text (at + 2) 0 + 16777216 * get_or text (at + 3) 0

abbrev pub text_words : List ℕ → List ℕ
text_words text = map (λ k. word_at text (4 * k)) (range_with_len 0 (length text / 4 + 1))
