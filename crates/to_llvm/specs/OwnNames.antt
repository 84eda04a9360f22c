-- Which names a kernel may have of its own, by their bytes (LLVM 14, Identifiers).
use Rattle.std.specs.Prelude.{ℕ, Bool, true, false, not, ◌&&◌, ◌||◌, nat_eq, List, [], ◌∷◌, Option, None, Some, codes}
use Rattle.std.specs.List.{list_all, starts_with}
use Rattle.std.specs.Char.{is_ascii_alphabetic, is_ascii_alphanumeric}
use Rattle.ll_tokens.specs.Forms.{is_one_of}
use Rattle.ll_tree.specs.declared.name.NameKind.{NameKind}
use Rattle.ll_tree.specs.declared.name.NameKind.TheVariants as kind
use Rattle.ll_tree.specs.declared.name.NameText.{NameText}
use Rattle.ll_tree.specs.declared.name.Spelling.{Spelling}
use Rattle.ll_tree.specs.declared.name.Spelling.TheVariants.{Number, Text}

abbrev pub is_sign : ℕ → Bool
is_sign byte = is_one_of (codes "-$._") byte

abbrev pub begins_name : ℕ → Bool
begins_name byte = is_ascii_alphabetic byte || is_sign byte

abbrev pub continues_name : ℕ → Bool
continues_name byte = is_ascii_alphanumeric byte || is_sign byte

-- a name that stands without quotes and is no number
abbrev pub is_word : List ℕ → Bool
is_word [] = false
is_word (byte ∷ bytes) = begins_name byte && list_all continues_name bytes

-- and not as built-in functions' are
abbrev pub is_own_text : List ℕ → Bool
is_own_text text = is_word text && not (starts_with nat_eq text (codes "_Z"))

abbrev pub is_own_spelling : Spelling → Bool
is_own_spelling (Number number) = false
is_own_spelling (Text bytes) = is_own_text bytes

abbrev pub is_global : NameKind → Bool
is_global kind.Local = false
is_global kind.Global = true
is_global kind.Struct = false

abbrev pub is_own_entry : NameText → Bool
is_own_entry entry = is_global entry.kind && is_own_spelling entry.spelling

abbrev pub is_own_name : Option NameText → Bool
is_own_name None = false
is_own_name (Some entry) = is_own_entry entry
