-- What a phrase is written as before another text, without brackets between its parts.
use Rattle.std.proofs.Common.{◌≡◌, ℕ, List, [], ◌∷◌, ◌++◌, refl, sym, ◌∙◌, ap, append_assoc}
use Rattle.std.proofs.lemmas.List.{append-nil}
use Rattle.ll_phrases.specs.Phrases.{Phrase, Empty, Gap, Mark, Solid, Both, written}

abbrev pub before : Phrase → List ℕ → List ℕ
before Empty rest = rest
before (Gap byte) rest = byte ∷ rest
before (Mark byte) rest = byte ∷ rest
before (Solid kind text) rest = text ++ rest
before (Both p q) rest = before p (before q rest)

grouped : (p : Phrase) (rest : List ℕ) → written p ++ rest ≡ before p rest
grouped Empty rest = refl
grouped (Gap byte) rest = refl
grouped (Mark byte) rest = refl
grouped (Solid kind text) rest = refl
grouped (Both p q) rest =
    append_assoc (written p) (written q) rest ∙ (ap (λ (t : List ℕ). written p ++ t) (grouped q rest) ∙ grouped p (before q rest))

pub written-before : (p : Phrase) → written p ≡ before p []
written-before p = sym (append-nil (written p)) ∙ grouped p []
