-- Names and numbers as readers find them.
use Rattle.std.proofs.Common.{◌≡◌, ℕ, ℤ, pos, List, drop, Some, slice_get, sym, ap, ap₂}
use Rattle.ll_tokens.specs.declared.kinds.TokenKind.{TokenKind}
use Rattle.ll_tree.specs.declared.name.Name.{Name}
use Rattle.ll_tree.specs.declared.name.NameKind.{NameKind}
use Rattle.ll_tree.specs.declared.name.NameText.{NameText}
use Rattle.ll_tree.specs.Names.{name_renamed}
use Rattle.ll_parser.specs.GrammarTypes.{number}
use Rattle.ll_parser.specs.NameReading.{signed_name}
use Rattle.ll_parser.specs.Spellings.{integer_value, spelling_of}
use Rattle.ll_one_module.proofs.Readers.{Ahead, Reader, first, Reads, first-reads}

-- a table of names, what becomes of its numbers, and the same by the names that they stand for
pub record Numbering : Type 0 where
  pub names : List NameText
  pub renumber : ℕ → ℕ
  pub look : NameText → ℕ
  pub found : (number : ℕ) (entry : NameText) → slice_get names number ≡ Some entry → renumber number ≡ look entry

unfoldable pub read_name : (NameText → ℕ) → NameKind → Reader Name
read_name look kind = first (λ l. record { number = look (record { kind = kind; spelling = spelling_of (drop 1 l.text) }); byte = l.byte })

abbrev pub renamed : Numbering → Name → Name
renamed t = name_renamed t.renumber

pub name-reads : {u : Ahead} (t : Numbering) (kind : TokenKind) (name_kind : NameKind) (name : Name) → Reads u (signed_name kind name_kind t.names name) (read_name t.look name_kind) (renamed t name)
unfolding read_name
name-reads t kind name_kind name =
    first-reads _ kind _ (λ l kind_is d.
    let same : t.renumber name.number ≡ t.look (record { kind = name_kind; spelling = spelling_of (drop 1 l.text) }) = t.found name.number _ d.1.1 in
    ap₂ (λ (n : ℕ) (b : ℕ). let named : Name = record { number = n; byte = b } in named) (sym same) (sym d.0))

abbrev whole_part : ℤ → ℕ
whole_part (pos n) = n
whole_part _ = 0

unfoldable pub read_number : Reader ℕ
read_number = first (λ l. whole_part (integer_value l.text))

pub number-reads : {u : Ahead} (n : ℕ) → Reads u (number n) read_number n
unfolding read_number
number-reads n = first-reads _ _ _ (λ l kind_is d. ap whole_part d.0)
