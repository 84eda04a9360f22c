-- Parts that go on until something else begins, and items that carry a number from one to the next.
use Rattle.std.specs.Prelude.{◌≡◌, ℕ, ◌⊎◌, List, [], ◌∷◌, length}
use Rattle.ll_tokens.specs.Tokens.{Lexeme}
use Rattle.ll_tree.specs.declared.name.NameText.{NameText}
use Rattle.ll_parser.specs.Productions.{Production}
use Rattle.ll_parser.specs.Reading.{EndsNowhere}
use Rattle.ll_operands.specs.Parts.{Begins, Part, times}

-- nothing that may stand there
abbrev pub no_part : Part
no_part = record {
  begins = λ tokens rest. ⊥;
  stops = λ tokens refusal. refusal ≡ record { rule = 3; left = length tokens };
}

-- a production where the opening doesn't begin the tokens
abbrev pub unless_begins : Production → Production → Production
unless_begins opening production tokens rest = EndsNowhere opening tokens × production tokens rest

-- a part as often as the tokens don't begin with the opening of the last one, and then that
abbrev pub until : Production → Part → Part → Part
until opening part last = record {
  begins = λ tokens rest. (count : ℕ) × (middle : List Lexeme) × times count (unless_begins opening part.begins) tokens middle × Begins opening middle × last.begins middle rest;
  stops = λ tokens refusal. (count : ℕ) × (middle : List Lexeme) × times count (unless_begins opening part.begins) tokens middle × ((EndsNowhere opening middle × part.stops middle refusal) ⊎ (Begins opening middle × last.stops middle refusal));
}

-- items one behind another, each with a number before it and one behind it, with which the next goes on
abbrev pub threaded : {A : Type 0} → (ℕ → ℕ → List NameText → A → Production) → ℕ → ℕ → List NameText → List A → Production
threaded item start end names [] tokens rest = (end ≡ start) × (tokens ≡ rest)
threaded item start end names (x ∷ xs) tokens rest =
    (next : ℕ) × (middle : List Lexeme) × item start next names x tokens middle × threaded item next end names xs middle rest
