-- Laws of words, feeds and strings.
use Rattle.std.specs.Prelude.{◌≡◌, ◌≢◌, ℕ, List, ◌++◌, length, All, IsUtf8}
use Rattle.spv_words.specs.declared.words.Order.{Order}
use Rattle.spv_words.specs.declared.words.Order.TheVariants.{Little}
use Rattle.spv_words.specs.Words.{IsWords}
use Rattle.spv_words.specs.Strings.{BeginsString, terminated}
use Rattle.spv_words.specs.Feeds.{FeedState, Feeds}

-- two pieces one after another give the words of both in one
abbrev pub PiecesJoin : Type 0
PiecesJoin =
    (old mid new : FeedState) (piece more given next : List ℕ) → Feeds old piece mid given → Feeds mid more new next
    → Feeds old (piece ++ more) new (given ++ next)

-- bytes are those of one list of words at most
abbrev pub OneWordList : Type 0
OneWordList =
    (order : Order) (bytes words others : List ℕ) → IsWords bytes order words → IsWords bytes order others → words ≡ others

-- words begin one string at most
abbrev pub OneString : Type 0
OneString =
    (words text other : List ℕ) (used count : ℕ) → BeginsString words text used → BeginsString words other count
    → (text ≡ other) × (used ≡ count)

-- the words of a text, with others behind them, begin with that text
abbrev pub StringReadsBack : Type 0
StringReadsBack =
    (text words rest : List ℕ) → IsUtf8 text → All (λ byte. byte ≢ 0) text → IsWords (terminated text) Little words
    → BeginsString (words ++ rest) text (length words)
