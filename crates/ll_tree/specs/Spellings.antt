-- Modules whose names are compared by what they spell, whatever numbers the tables give them (LLVM 14,
-- Identifiers).
use Rattle.std.specs.Prelude.{◌≡◌, ℕ, ◌+◌, ◌*◌, ◌<◌, List, [], ◌∷◌, All, slice_get}
use Rattle.std.specs.Option.{option_map_or}
use Rattle.ll_tree.specs.declared.module.LlModule.{LlModule}
use Rattle.ll_tree.specs.declared.name.Name.{Name}
use Rattle.ll_tree.specs.declared.name.NameText.{NameText}
use Rattle.ll_tree.specs.declared.name.Spelling.{Spelling}
use Rattle.ll_tree.specs.declared.name.Spelling.TheVariants.{Number, Text}
use Rattle.ll_tree.specs.Modules.{module_changed, without_places}

-- a number for each list of bytes: its digits, lowest first, are the bytes and one
abbrev pub text_code : List ℕ → ℕ
text_code [] = 0
text_code (byte ∷ bytes) = byte + 1 + 256 * text_code bytes

-- a number for each spelling
abbrev pub spelling_code : Spelling → ℕ
spelling_code (Number number) = 2 * number
spelling_code (Text bytes) = 2 * text_code bytes + 1

-- the name with the number of its spelling, which is 0 for a name that the table lacks
abbrev pub name_spelled : List NameText → Name → Name
name_spelled table name = record {
  number = option_map_or (λ (entry : NameText). spelling_code entry.spelling + 1) (slice_get table name.number) 0;
  byte = name.byte;
}

-- the module whose names are the numbers of their spellings, so that it needs no table
unfoldable pub spelled : LlModule → LlModule
spelled m = module_changed (name_spelled m.names) (λ byte. byte) [] m

-- the same module, places and the numbers of names aside
abbrev pub IsSameSpelled : LlModule → LlModule → Type 0
IsSameSpelled m n = spelled (without_places m) ≡ spelled (without_places n)

-- every byte of a text is below 256
abbrev pub IsBytes : Spelling → Type 0
IsBytes (Number number) = Unit {0}
IsBytes (Text bytes) = All (λ byte. byte < 256) bytes

-- two spellings with one number are one
abbrev pub SpellingsAreToldApart : Type 0
SpellingsAreToldApart = (a b : Spelling) → IsBytes a → IsBytes b → spelling_code a ≡ spelling_code b → a ≡ b
