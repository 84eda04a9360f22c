-- How takings of a sink join.
use Rattle.std.proofs.Common.{◌≡◌, ℕ, ◌+◌, List, ◌++◌, take, drop, refl, sym, ◌∙◌, ap, append_assoc}
use Rattle.std.specs.Prelude.{Option, Some, None, IsSome}
use Rattle.std.proofs.Math.Seq.{take-add}
use Rattle.ports.specs.Streams.{Takes}

-- taking some bytes, and then those behind them
pub Takes-then : (old mid new : Option (List ℕ)) (xs : List ℕ) (at n : ℕ) → Takes old mid (take at xs)
    → Takes mid new (take n (drop at xs)) → Takes old new (take (at + n) xs)
Takes-then old mid None xs at n first second told = absurd (let no : IsSome {T = List ℕ} None → ⊥ = λ e. cc in no told)
Takes-then old None (Some ys) xs at n first second told = absurd (let e : Some ys ≡ None = second refl in cc)
Takes-then None (Some ms) (Some ys) xs at n first second told = absurd (let e : Some ms ≡ None = first refl in cc)
Takes-then (Some os) (Some ms) (Some ys) xs at n first second told =
    let e : Some ms ≡ Some (os ++ take at xs) = first refl in
    let f : Some ys ≡ Some (ms ++ take n (drop at xs)) = second refl in
    let m : ms ≡ os ++ take at xs = cc in
    f ∙ ap (λ zs. Some (zs ++ take n (drop at xs))) m
    ∙ ap (λ zs. Some zs) (append_assoc os (take at xs) (take n (drop at xs)) ∙ ap (λ zs. os ++ zs) (sym (take-add at n xs)))
