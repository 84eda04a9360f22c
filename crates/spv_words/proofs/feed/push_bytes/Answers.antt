-- One byte more.
use Rattle.std.proofs.Common.{◌++◌, [], ◌∷◌, List, ℕ, ◌<◌, length, take, get_or, subst, append_assoc, arith, ap, sym, ◌∙◌}
use Rattle.std.proofs.lemmas.List.{take_more}
use Rattle.spv_words.specs.Feeds.{Pushed}
use Rattle.spv_words.proofs.FeedLemmas.{Pushed-then}
use Rattle.spv_words.proofs.feed.push_bytes.Goals as goal

pub loop-byte-preserved : goal.loop-byte-preserved
loop-byte-preserved c =
    let h = take c.args.held_len c.args.held.now in
    let p = c.args.piece.now in
    let i = c.loop-byte.byte-index in
    let out = c.args.out.now.items in
    let new = c.push_byte-len.new.out.items in
    let rest = take c.push_byte-len.result c.push_byte-len.new.held in
    let within : i < length p = c.loop-byte-test.true in
    let P : List ℕ → Type 0 = λ bytes. Pushed c.args.order bytes out new rest in (
      c.push_byte-len.ensures.held,
      subst P (append_assoc h (take i p) (get_or p i 0 ∷ []) ∙ ap (λ xs. h ++ xs) (sym (take_more p i 0 within)))
          (Pushed-then _ _ _ _ _ _ _ _ c.loop-byte.invariant.1 c.push_byte-len.ensures.pushed),
      omega arith,
      c.push_byte-len.ensures.capacity ∙ c.loop-byte.invariant.3,
    )
