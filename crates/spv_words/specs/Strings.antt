-- Texts as words (SPIR-V 1.2, 2.2.1, "Literal String").
use Rattle.std.specs.Prelude.{◌≡◌, ◌≢◌, ℕ, ◌-◌, ◌%◌, ◌≤◌, List, ◌++◌, length, take, replicate, All, IsUtf8}
use Rattle.spv_words.specs.declared.words.Order.TheVariants.{Little}
use Rattle.spv_words.specs.Words.{words_bytes}

-- a text, a zero byte, and as many more zero bytes as fill its last word
abbrev pub terminated : List ℕ → List ℕ
terminated text = text ++ replicate (4 - length text % 4) 0

-- the first words, so many of them, are those of this text as a literal string
pub record BeginsString (words text : List ℕ) (used : ℕ) : Type 0 where
  pub within : used ≤ length words
  pub spelled : words_bytes Little (take used words) ≡ terminated text
  pub utf8 : IsUtf8 text
  pub no_zero : All (λ byte. byte ≢ 0) text
