-- The bytes that are held, and as many of the piece as are missing.
use Rattle.spv_words.proofs.FeedLemmas.{four-front, nothing-behind}
use Rattle.spv_words.proofs.feed.first_four.Goals as goal

pub returns : goal.returns
returns c =
    four-front c.args.held.now c.args.piece.now _ _ c.args.held_len c.told-held c.requires.held c.copy_from_slice.ensures.after
    (nothing-behind c.args.held.now c.args.held_len c.told-held c.requires.held)
