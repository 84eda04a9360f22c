-- Phrases whose tokens stand apart: each has the form of its kind, and is separated from the next one by a blank or a punctuation mark.
use Rattle.std.specs.Prelude.{◌≡◌, Bool, true, false, ◌&&◌, not, if◌then◌else◌, Option, None, Some}
use Rattle.ll_tokens.specs.declared.bytes.ByteClass.TheVariants.{Blank, Punctuation}
use Rattle.ll_tokens.specs.Forms.{in_class}
use Rattle.ll_tokens.specs.Tokens.{has_kind}
use Rattle.ll_phrases.specs.Phrases.{Phrase, Empty, Gap, Mark, Solid, Both}

-- Whether a phrase may stand behind a token that has to be separated, or behind none, and then whether it ends with such a token; nothing where
-- it may not
abbrev pub layout : Bool → Phrase → Option Bool
layout behind Empty = Some behind
layout behind (Gap byte) = if in_class Blank byte then Some false else None
layout behind (Mark byte) = if in_class Punctuation byte then Some false else None
layout behind (Solid kind text) = if not behind && has_kind kind text then Some true else None
layout behind (Both p q) = elim (layout behind p) [ None ↦ None | Some middle ↦ layout middle q ]

abbrev pub IsLaidOut : Phrase → Type 0
IsLaidOut phrase = (ends : Bool) × (layout false phrase ≡ Some ends)
