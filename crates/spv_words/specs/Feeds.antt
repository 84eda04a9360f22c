-- How a feed makes words of bytes that come in pieces (SPIR-V 1.2, 2.3).
use Rattle.std.specs.Prelude.{◌≡◌, ℕ, ◌+◌, ◌*◌, ◌<◌, ◌≤◌, nat_le, List, [], ◌++◌, length, take, Option, Some, None, IfNone, if◌then◌else◌}
use Rattle.std.specs.Str.{bytes_eq}
use Rattle.spv_words.specs.declared.words.Order.{Order}
use Rattle.spv_words.specs.declared.words.Order.TheVariants.{Little, Big}
use Rattle.spv_words.specs.declared.words.TheConstants.{MAGIC}
use Rattle.spv_words.specs.Words.{word_bytes, words_bytes}

-- what contracts see of a feed: the byte order once the first four bytes have told it, how many words it has given, and the
-- bytes behind the last of them
pub record FeedState : Type 0 where
  pub order : Option Order
  pub count : ℕ
  pub rest : List ℕ

-- the order in which these four bytes are the magic number
abbrev pub magic_order : List ℕ → Option Order
magic_order bytes =
    if bytes_eq bytes (word_bytes Little MAGIC) then Some Little
    else (if bytes_eq bytes (word_bytes Big MAGIC) then Some Big else None)

-- the order once these bytes have come, which are the first of a binary where no order was known
abbrev pub order_after : Option Order → List ℕ → Option Order
order_after (Some order) bytes = Some order
order_after None bytes = if nat_le 4 (length bytes) then magic_order (take 4 bytes) else None

-- the bytes of words in an order that may not be known yet
abbrev pub bytes_in : Option Order → List ℕ → List ℕ
bytes_in None words = []
bytes_in (Some order) words = words_bytes order words

-- the bytes that were held and those that came are the words that were given and the bytes that are held now
pub record Feeds (old : FeedState) (piece : List ℕ) (new : FeedState) (given : List ℕ) : Type 0 where
  pub spelled : old.rest ++ piece ≡ bytes_in new.order given ++ new.rest
  pub held : length new.rest < 4
  pub counted : new.count ≡ old.count + length given
  pub ordered : new.order ≡ order_after old.order (old.rest ++ piece)
  pub unknown : IfNone new.order (given ≡ [])

-- words were appended, and these bytes are theirs, in an order that may not be known yet, and then the rest
pub record Takes (order : Option Order) (bytes out_old out_new rest : List ℕ) : Type 0 where
  pub given : List ℕ
  pub appended : out_new ≡ out_old ++ given
  pub spelled : bytes ≡ bytes_in order given ++ rest
  pub unknown : IfNone order (given ≡ [])
  pub counted : 4 * length given + length rest ≡ length bytes
  pub held : length rest < 4

-- such words were appended
pub record FeedsInto (old : FeedState) (piece : List ℕ) (new : FeedState) (out_old out_new : List ℕ) : Type 0 where
  pub given : List ℕ
  pub appended : out_new ≡ out_old ++ given
  pub feeds : Feeds old piece new given

-- words were appended, and these bytes are theirs and then the rest
pub record Pushed (order : Order) (bytes out_old out_new rest : List ℕ) : Type 0 where
  pub given : List ℕ
  pub appended : out_new ≡ out_old ++ given
  pub spelled : bytes ≡ words_bytes order given ++ rest

-- no order was known, and the first four bytes are the magic number in neither
pub record IsNotMagic (old : FeedState) (piece : List ℕ) : Type 0 where
  pub unknown : old.order ≡ None
  pub enough : 4 ≤ length (old.rest ++ piece)
  pub neither : magic_order (take 4 (old.rest ++ piece)) ≡ None
