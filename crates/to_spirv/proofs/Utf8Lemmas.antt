-- The bytes of a text in UTF-8 are bytes.
use Rattle.std.proofs.Common.{◌≡◌, ℕ, ◌+◌, ◌/◌, ◌<◌, Bool, true, false, cond, List, [], ◌∷◌, All, refl, subst, arith, ⊎_elim}
use Rattle.std.specs.Prelude.{IsUtf8, nat_lt, ◌&&◌}
use Rattle.std.proofs.lemmas.Bool.{ltb-true, false≢true}
use Rattle.std.proofs.lemmas.List.Elements.{All-nil, All-append, All-from_recursion}
use lib.Utf8.{scalar, scalars, next, encode, encodes, scalar_cases}

abbrev IsByte : ℕ → Type 0
IsByte byte = byte < 256

char-bytes : (c : ℕ) → c < 1114112 → All IsByte (encode c)
unfolding encode
char-bytes c small = by_size (nat_lt c 128) (nat_lt c 2048) (nat_lt c 65536) refl refl refl
  where
    by_size : (one two three : Bool) → nat_lt c 128 ≡ one → nat_lt c 2048 ≡ two → nat_lt c 65536 ≡ three
        → All IsByte (cond one (c ∷ []) (cond two ((192 + c / 64) ∷ next c ∷ []) (cond three ((224 + c / 4096) ∷ next (c / 64) ∷ next c ∷ []) ((240 + c / 262144) ∷ next (c / 4096) ∷ next (c / 64) ∷ next c ∷ []))))
    by_size true two three is second third =
        let below : c < 128 = ltb-true c 128 is in
        All-from_recursion IsByte (c ∷ []) (omega arith, tt)
    by_size false true three first is third =
        let below : c < 2048 = ltb-true c 2048 is in
        All-from_recursion IsByte ((192 + c / 64) ∷ next c ∷ []) (omega arith, (omega arith, tt))
    by_size false false true first second is =
        let below : c < 65536 = ltb-true c 65536 is in
        All-from_recursion IsByte ((224 + c / 4096) ∷ next (c / 64) ∷ next c ∷ []) (omega arith, (omega arith, (omega arith, tt)))
    by_size false false false first second third =
        All-from_recursion IsByte ((240 + c / 262144) ∷ next (c / 4096) ∷ next (c / 64) ∷ next c ∷ []) (omega arith, (omega arith, (omega arith, (omega arith, tt))))

both-true : (a b : Bool) → (a && b) ≡ true → (a ≡ true) × (b ≡ true)
both-true true b is = (refl, is)
both-true false b is = absurd (false≢true is)

scalar-small : (c : ℕ) → scalar c ≡ true → c < 1114112
scalar-small c is = ⊎_elim (λ low. omega arith) (λ high. high.1) (scalar_cases c is)

chars-bytes : (cs : List ℕ) → scalars cs ≡ true → All IsByte (encodes cs)
chars-bytes [] are = All-nil IsByte
chars-bytes (c ∷ cs) are =
    let both = both-true (scalar c) (scalars cs) are in
    All-append IsByte (encode c) (encodes cs) (char-bytes c (scalar-small c both.0)) (chars-bytes cs both.1)

pub utf8-bytes : (text : List ℕ) → IsUtf8 text → All (λ byte. byte < 256) text
utf8-bytes text utf8 = subst (λ (bytes : List ℕ). All IsByte bytes) utf8.1.1 (chars-bytes utf8.0 utf8.1.0)
