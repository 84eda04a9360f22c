-- The names of a kernel's text, each of which is one token (LLVM 14, Identifiers).
use Rattle.std.specs.Prelude.{◌≡◌, ℕ, ◌-◌, Bool, true, not, ◌==◌, ◌&&◌, nat_eq, IsTrue, List, [], ◌∷◌, drop, take, length, codes}
use Rattle.std.specs.List.{list_all, starts_with}
use Rattle.std.specs.Char.{is_ascii_digit}
use Rattle.ll_tokens.specs.declared.kinds.TokenKind.{TokenKind}
use Rattle.ll_tokens.specs.declared.kinds.TokenKind.TheVariants.{Global as GlobalToken, Local as LocalToken, Label as LabelToken}
use Rattle.ll_tree.specs.declared.name.Name.{Name}
use Rattle.ll_tree.specs.declared.name.NameKind.{NameKind}
use Rattle.ll_tree.specs.declared.name.NameKind.TheVariants.{Global as GlobalName, Local as LocalName}
use Rattle.ll_tree.specs.declared.name.NameText.{NameText}
use Rattle.ll_parser.specs.Productions.{Production, token}
use Rattle.ll_parser.specs.Spellings.{Spells}
use Rattle.kernel_text.specs.declared.name_sorts.NameSort.{NameSort}
use Rattle.kernel_text.specs.declared.name_sorts.NameSort.TheVariants.{Kernel, Value, Label}

abbrev pub token_kind : NameSort → TokenKind
token_kind Kernel = GlobalToken
token_kind Value = LocalToken
token_kind Label = LabelToken

abbrev pub name_kind : NameSort → NameKind
name_kind Kernel = GlobalName
name_kind Value = LocalName
name_kind Label = LocalName

-- the part of a token's text that spells the name: what is behind the sign, or before the `:`
abbrev pub spelled_text : NameSort → List ℕ → List ℕ
spelled_text Kernel text = drop 1 text
spelled_text Value text = drop 1 text
spelled_text Label text = take (length text - 1) text

-- a name without quotes, 34
abbrev pub is_plain : List ℕ → Bool
is_plain [] = true
is_plain (byte ∷ bytes) = not (byte == 34)

-- a name that a kernel may have: without quotes, no number, and not as the built-in functions' are
abbrev pub is_kernel_name : List ℕ → Bool
is_kernel_name text =
    is_plain text && (not (list_all is_ascii_digit text) && not (starts_with nat_eq text (codes "_Z")))

abbrev pub is_allowed : NameSort → List ℕ → Bool
is_allowed Kernel text = is_kernel_name text
is_allowed Value text = is_plain text
is_allowed Label text = is_plain text

-- a token that spells a name, whose place it is
abbrev pub written_name : NameSort → List NameText → Name → Production
written_name sort names name =
    token (token_kind sort) (λ lexeme. IsTrue (is_allowed sort (spelled_text sort lexeme.text)) × (name.byte ≡ lexeme.byte) × Spells names (name_kind sort) (spelled_text sort lexeme.text) name.number)
