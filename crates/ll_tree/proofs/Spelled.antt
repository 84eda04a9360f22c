-- Spellings by their numbers.
use Rattle.std.proofs.Common.{◌≡◌, ℕ, ◌<◌, List, [], ◌∷◌, All, refl, ap, ap₂, arith}
use Rattle.std.proofs.lemmas.List.Elements.{All-head, All-tail}
use Rattle.ll_tree.specs.declared.name.Spelling.{Spelling}
use Rattle.ll_tree.specs.declared.name.Spelling.TheVariants.{Number, Text}
use Rattle.ll_tree.specs.Spellings.{text_code, spelling_code, IsBytes}

texts_apart : (xs ys : List ℕ) → All (λ byte. byte < 256) xs → All (λ byte. byte < 256) ys → text_code xs ≡ text_code ys → xs ≡ ys
texts_apart [] [] h k e = refl
texts_apart [] (y ∷ ys) h k e = absurd (omega arith)
texts_apart (x ∷ xs) [] h k e = absurd (omega arith)
texts_apart (x ∷ xs) (y ∷ ys) h k e =
    let P : ℕ → Type 0 = λ byte. byte < 256 in
    let lx : x < 256 = All-head P x xs h in
    let ly : y < 256 = All-head P y ys k in
    let same : text_code xs ≡ text_code ys = omega arith in
    let first : x ≡ y = omega arith in
    ap₂ (λ z zs. z ∷ zs) first (texts_apart xs ys (All-tail P x xs h) (All-tail P y ys k) same)

pub spellings_apart : (a b : Spelling) → IsBytes a → IsBytes b → spelling_code a ≡ spelling_code b → a ≡ b
spellings_apart (Number m) (Number n) h k e = ap Number (omega arith)
spellings_apart (Number m) (Text ys) h k e = absurd (omega arith)
spellings_apart (Text xs) (Number n) h k e = absurd (omega arith)
spellings_apart (Text xs) (Text ys) h k e = ap Text (texts_apart xs ys h k (omega arith))
