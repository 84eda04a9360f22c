-- What holds of every phrase.
use Rattle.std.specs.Prelude.{List, []}
use Rattle.ll_tokens.specs.Tokens.{IsTokens, Lexeme}
use Rattle.ll_phrases.specs.Phrases.{Phrase, spelled, written}
use Rattle.ll_phrases.specs.Layouts.{IsLaidOut}

-- the text of a phrase that is laid out rightly is read as the tokens of the phrase
abbrev pub TextsAreReadAsTheirPhrases : Type 0
TextsAreReadAsTheirPhrases = (phrase : Phrase) → IsLaidOut phrase → (tokens : List Lexeme) × IsTokens (written phrase) tokens × spelled phrase tokens []
