use Rattle.std.proofs.Common.{◌≡◌, ◌+◌, ◌*◌, ◌<◌, ◌++◌, take, vec_len, vec_capacity}
use Rattle.spv_words.specs.Feeds.{Pushed}
use Rattle.spv_words.proofs.feed.push_bytes.Given as goal

-- the bytes so far are pushed, no place was added
abbrev pub invariant-loop-byte : goal.invariant-loop-byte
invariant-loop-byte l =
    (l.len < 4)
    × Pushed l.order (take l.held_len l.initial.held ++ take l.byte-index l.piece) l.initial.out.items l.out.items (take l.len l.held)
    × (4 * vec_len l.out + l.len ≡ 4 * vec_len l.initial.out + l.held_len + l.byte-index)
    × (vec_capacity l.out ≡ vec_capacity l.initial.out)
