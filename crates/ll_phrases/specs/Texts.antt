-- How names and texts are spelled (LLVM 14, Identifiers): a name of letters, digits, `-`, `$`, `.` and `_` that begins with no digit stands as it
-- is, every other one between quotes, with `\` and two hexadecimal digits for each byte that is no printable ASCII character, a quote or a `\`.
use Rattle.std.specs.Prelude.{ℕ, ◌+◌, ◌/◌, ◌%◌, Bool, ◌&&◌, ◌||◌, ◌==◌, if◌then◌else◌, nat_lt, List, [], ◌∷◌, ◌++◌, flat_map, Option, None, Some, slice_get}
use Rattle.std.specs.Fmt.{decimal}
use Rattle.ll_tokens.specs.declared.kinds.TokenKind.TheVariants.{Global as GlobalToken, Label as LabelToken, Local as LocalToken, Str}
use Rattle.ll_tokens.specs.Tokens.{name}
use Rattle.ll_tokens.specs.Forms.{has_form}
use Rattle.ll_tree.specs.declared.name.Name.{Name}
use Rattle.ll_tree.specs.declared.name.NameText.{NameText}
use Rattle.ll_tree.specs.declared.name.Spelling.{Spelling}
use Rattle.ll_tree.specs.declared.name.Spelling.TheVariants.{Number, Text}
use Rattle.ll_phrases.specs.Phrases.{Phrase, Solid}

-- 48 is `0`, and 55 + 10 is `A`
abbrev pub hex_digit : ℕ → ℕ
hex_digit n = if nat_lt n 10 then 48 + n else 55 + n

-- 34 is a quote, 92 `\`, 126 the last printable byte of ASCII
abbrev pub is_escaped : ℕ → Bool
is_escaped byte = nat_lt byte 32 || ((nat_lt 126 byte && nat_lt byte 256) || ((byte == 34) || (byte == 92)))

abbrev pub escaped_byte : ℕ → List ℕ
escaped_byte byte = if is_escaped byte then 92 ∷ hex_digit (byte / 16) ∷ hex_digit (byte % 16) ∷ [] else byte ∷ []

abbrev pub quoted : List ℕ → List ℕ
quoted bytes = 34 ∷ (flat_map escaped_byte bytes ++ 34 ∷ [])

abbrev pub name_text : List ℕ → List ℕ
name_text bytes = if has_form name bytes then bytes else quoted bytes

abbrev pub spelling_text : Spelling → List ℕ
spelling_text (Number n) = decimal n
spelling_text (Text bytes) = name_text bytes

abbrev pub entry_text : Option NameText → List ℕ
entry_text None = []
entry_text (Some entry) = spelling_text entry.spelling

module _ (names : List NameText) where
  -- the text of a name by its number
  abbrev pub number_text : ℕ → List ℕ
  number_text number = entry_text (slice_get names number)

  -- a name of a value, a block or a struct type, behind `%`, 37
  abbrev pub local_phrase : Name → Phrase
  local_phrase n = Solid LocalToken (37 ∷ number_text n.number)

  -- a name of a function or a variable, behind `@`, 64
  abbrev pub global_phrase : Name → Phrase
  global_phrase n = Solid GlobalToken (64 ∷ number_text n.number)

  -- a block's name before `:`, 58
  abbrev pub label_phrase : ℕ → Phrase
  label_phrase number = Solid LabelToken (number_text number ++ 58 ∷ [])

abbrev pub string_phrase : List ℕ → Phrase
string_phrase bytes = Solid Str (quoted bytes)
