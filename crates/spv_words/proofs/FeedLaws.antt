-- A feed gives the same words, however its bytes are cut.
use Rattle.std.proofs.Common.{◌≡◌, ℕ, ◌<◌, ◌≤◌, List, [], ◌++◌, length, take, true, sym, ◌∙◌, ap, append_assoc, length-append, inl, inr, arith, if◌then◌else◌}
use Rattle.std.specs.Prelude.{Option, Some, None, IfNone, nat_le}
use Rattle.std.proofs.lemmas.Grind.{flat_map-append}
use Rattle.std.proofs.lemmas.Bool.{cases_lt, le-leb}
use Rattle.std.proofs.lemmas.Bool.Decides.{leb_tells}
use Rattle.std.proofs.lemmas.List.{take-append-le}
use Rattle.spv_words.specs.declared.words.Order.{Order}
use Rattle.spv_words.specs.Words.{word_bytes, words_bytes}
use Rattle.spv_words.specs.Feeds.{bytes_in, magic_order, order_after}
use Rattle.spv_words.specs.Laws.{PiecesJoin}

-- an order that is known stays
known-stays : (mid new : Option Order) (order : Order) (bytes : List ℕ) → mid ≡ Some order → new ≡ order_after mid bytes
    → new ≡ Some order
known-stays mid new order bytes is_known after = after ∙ ap (λ o. order_after o bytes) is_known

-- the bytes of the words of both pieces
both-spelled : (mid new : Option Order) (given next rest : List ℕ) (bytes : List ℕ) → new ≡ order_after mid bytes
    → IfNone mid (given ≡ []) → bytes_in mid given ++ (bytes_in new next ++ rest) ≡ bytes_in new (given ++ next) ++ rest
both-spelled None new given next rest bytes after unknown =
    ap (λ xs. bytes_in new (xs ++ next) ++ rest) (sym unknown)
both-spelled (Some order) new given next rest bytes after unknown =
    ap (λ o. words_bytes order given ++ (bytes_in o next ++ rest)) after
    ∙ sym (append_assoc (words_bytes order given) (words_bytes order next) rest)
    ∙ ap (λ xs. xs ++ rest) (sym (flat_map-append (word_bytes order) given next))
    ∙ ap (λ o. bytes_in o (given ++ next) ++ rest) (sym after)

-- no words came while no order is known
both-unknown : (mid new : Option Order) (given next bytes : List ℕ) → new ≡ order_after mid bytes → IfNone mid (given ≡ [])
    → IfNone new (next ≡ []) → IfNone new (given ++ next ≡ [])
both-unknown mid (Some order) given next bytes after first second = tt
both-unknown None None given next bytes after first second = ap (λ xs. xs ++ next) first ∙ second
both-unknown (Some order) None given next bytes after first second = absurd (let no : None ≡ Some order = after in cc)

-- the order that the first four bytes of more bytes tell
order_after-more : (bytes more : List ℕ) → 4 ≤ length bytes → order_after None (bytes ++ more) ≡ order_after None bytes
order_after-more bytes more enough =
    let test : nat_le 4 (length (bytes ++ more)) ≡ true = le-leb 4 (length (bytes ++ more)) (omega (arith, length-append bytes more)) in
    let same : nat_le 4 (length bytes) ≡ true = le-leb 4 (length bytes) enough in
    ap (λ b. if b then magic_order (take 4 (bytes ++ more)) else None) test
    ∙ ap magic_order (take-append-le 4 bytes more enough)
    ∙ sym (ap (λ b. if b then magic_order (take 4 bytes) else None) same)

-- no order is told by fewer than four bytes
order_after-few : (bytes : List ℕ) → length bytes < 4 → order_after None bytes ≡ None
order_after-few bytes few =
    elim (leb_tells 4 (length bytes)) [
      | inl enough ↦ absurd (let h : 4 ≤ length bytes = enough.1 in omega arith)
      | inr less ↦ ap (λ b. if b then magic_order (take 4 bytes) else None) less.0
    ]

-- the order that the bytes of both pieces tell
both-ordered : (old mid new : Option Order) (bytes more given rest : List ℕ) → mid ≡ order_after old bytes
    → bytes ≡ bytes_in mid given ++ rest → new ≡ order_after mid (rest ++ more) → new ≡ order_after old (bytes ++ more)
both-ordered (Some order) mid new bytes more given rest first spelled second = known-stays mid new order (rest ++ more) first second
both-ordered None None new bytes more given rest first spelled second =
    second ∙ ap (λ xs. order_after None (xs ++ more)) (sym spelled)
both-ordered None (Some order) new bytes more given rest first spelled second =
    elim (cases_lt (length bytes) 4) [
      | inl few ↦ absurd (let no : Some order ≡ None = first ∙ order_after-few bytes few in cc)
      | inr enough ↦ second ∙ first ∙ sym (order_after-more bytes more enough)
    ]

pub pieces-join : PiecesJoin
pieces-join old mid new piece more given next first second =
    record {
      spelled =
          sym (append_assoc old.rest piece more)
          ∙ ap (λ xs. xs ++ more) first.spelled
          ∙ append_assoc (bytes_in mid.order given) mid.rest more
          ∙ ap (λ xs. bytes_in mid.order given ++ xs) second.spelled
          ∙ both-spelled mid.order new.order given next new.rest (mid.rest ++ more) second.ordered first.unknown;
      held = second.held;
      counted = omega (arith, first.counted, second.counted, length-append given next);
      ordered =
          both-ordered old.order mid.order new.order (old.rest ++ piece) more given mid.rest first.ordered first.spelled second.ordered
          ∙ ap (order_after old.order) (append_assoc old.rest piece more);
      unknown = both-unknown mid.order new.order given next (mid.rest ++ more) second.ordered first.unknown second.unknown;
    }
