-- The fourth byte makes the word whole.
use Rattle.std.proofs.Common.{◌≡◌, ◌+◌, length, arith}
use Rattle.spv_words.proofs.FeedLemmas.{Pushed-word}
use Rattle.spv_words.proofs.feed.push_byte.Goals as goal

pub returns-clause-pushed : goal.returns-clause-pushed
returns-clause-pushed c =
    let whole : length c.args.held.now ≡ c.args.held_len + 1 = omega (arith, c.told-held) in
    Pushed-word _ _ _ _ _ _ _ whole c.get_word.ensures c.push_reserved.ensures.items
