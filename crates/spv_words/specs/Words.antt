-- The words of a list of bytes, in a byte order (SPIR-V 1.2, 2.3, "Physical Layout of a SPIR-V Module and Instruction").
use Rattle.std.specs.Prelude.{◌≡◌, ℕ, ◌^◌, ◌<◌, List, All}
use Rattle.std.specs.List.{flat_map}
use Rattle.std.specs.Int.{to_le_bytes, to_be_bytes, w32}
use Rattle.spv_words.specs.declared.words.Order.{Order}
use Rattle.spv_words.specs.declared.words.Order.TheVariants.{Little, Big}

-- the four bytes of a word: the lowest first in little order, the highest first in big order
abbrev pub word_bytes : Order → ℕ → List ℕ
word_bytes Little word = to_le_bytes w32 word
word_bytes Big word = to_be_bytes w32 word

-- the bytes of words that follow one another
abbrev pub words_bytes : Order → List ℕ → List ℕ
words_bytes order words = flat_map (word_bytes order) words

-- the bytes are those of these words in this order
pub record IsWords (bytes : List ℕ) (order : Order) (words : List ℕ) : Type 0 where
  pub spelled : bytes ≡ words_bytes order words
  pub in_range : All (λ word. word < 2 ^ 32) words
