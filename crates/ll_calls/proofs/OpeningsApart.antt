-- No two beginnings of calls are one word.
use Rattle.std.proofs.Common.{◌≡◌, ℕ, List, [], ◌∷◌, Option, None, Some, if◌then◌else◌, refl, sym, ap, ◌∙◌, unwrap_or}
use Rattle.std.specs.Str.{bytes_eq}
use Rattle.ll_calls.specs.declared.openings.CallOpening.{CallOpening}
use Rattle.ll_calls.specs.declared.openings.CallOpening.TheVariants as opening
use Rattle.ll_calls.specs.CallOpenings.{opening_word}

-- the first of some beginnings that is this word
abbrev first_of : List CallOpening → List ℕ → Option CallOpening
first_of [] word = None
first_of (key ∷ keys) word = if bytes_eq word (opening_word key) then Some key else first_of keys word

abbrev openings : List CallOpening
openings = opening.Tail ∷ opening.NoTail ∷ opening.Call ∷ []

found : (key : CallOpening) → first_of openings (opening_word key) ≡ Some key
found opening.Tail = refl
found opening.NoTail = refl
found opening.Call = refl

pub openings_apart : (j k : CallOpening) → opening_word j ≡ opening_word k → j ≡ k
openings_apart j k same = ap (λ o. unwrap_or o j) (sym (found j) ∙ ap (first_of openings) same ∙ found k)
