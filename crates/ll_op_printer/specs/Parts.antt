-- Parts of what types and values are written as.
use Rattle.std.specs.Prelude.{ℕ, zero, suc, List, [], ◌∷◌, codes}
use Rattle.ll_tree.specs.declared.name.NameText.{NameText}
use Rattle.ll_tree.specs.declared.ty.LlType.{LlType}
use Rattle.ll_phrases.specs.Phrases.{Phrase, Empty, ◌&◌, blank, a_word, a_number, each_behind}
use Rattle.ll_phrases.specs.TypePhrases.{type_phrase}

-- what stands between the brackets of an array type or a vector type
abbrev pub counted_phrase : List NameText → ℕ → LlType → Phrase
counted_phrase names count part = a_number count & blank & a_word (codes "x") & blank & type_phrase names part

-- with commas between them, and with blanks around them where there are any
abbrev pub spaced_phrase : {A : Type 0} → (A → Phrase) → List A → Phrase
spaced_phrase phrase [] = Empty
spaced_phrase phrase (x ∷ xs) = blank & phrase x & each_behind phrase xs & blank

-- what stands before the item of a list that has so many before it
abbrev pub separator : ℕ → List ℕ
separator zero = []
separator (suc before) = 44 ∷ 32 ∷ []
