-- The name of a kernel that is read from a text.
use Rattle.std.proofs.Common.{◌≡◌, ℕ, Bool, true, false, not, cond, List, [], ◌∷◌, drop, Some, slice_get, refl, sym, ◌∙◌, ap, subst}
use Rattle.std.specs.List.{list_all}
use Rattle.std.specs.Char.{is_ascii_digit}
use Rattle.std.proofs.lemmas.Bool.{and_parts, false≢true}
use Rattle.ll_tokens.specs.declared.kinds.TokenKind.{TokenKind}
use Rattle.ll_tokens.specs.declared.kinds.TokenKind.TheVariants.{Global as GlobalToken}
use Rattle.ll_tokens.specs.Forms.{has_form}
use Rattle.ll_tokens.specs.Tokens.{Lexeme, Reads, IsTokens, has_kind, named}
use Rattle.ll_tree.specs.declared.name.Name.{Name}
use Rattle.ll_tree.specs.declared.name.NameKind.TheVariants.{Global}
use Rattle.ll_tree.specs.declared.name.NameText.{NameText}
use Rattle.ll_tree.specs.declared.name.Spelling.{Spelling}
use Rattle.ll_tree.specs.declared.name.Spelling.TheVariants.{Text}
use Rattle.ll_parser.specs.Productions.{Production, ◌>>◌, token}
use Rattle.ll_parser.specs.Spellings.{Spells, spelling_of}
use Rattle.kernel_tree.specs.declared.kernel.Kernel.{Kernel}
use Rattle.kernel_text.specs.declared.name_sorts.NameSort.TheVariants as sort
use Rattle.kernel_text.specs.declared.phrases.Phrase.TheVariants as phrase
use Rattle.kernel_text.specs.Grammar.{IsKernelText, targets}
use Rattle.kernel_text.specs.NameSorts.{is_kernel_name, written_name}
use Rattle.kernel_text.specs.Phrases.{Wanted, exactly, pieces_of, words_of}
use Rattle.kernel_reading.specs.CanonicalKernels.{IsOwnName}

-- the bytes of each token are of its kind
abbrev OfKind : List Lexeme → Type 0
OfKind [] = Unit {0}
OfKind (t ∷ ts) = (has_kind t.kind t.text ≡ true) × OfKind ts

tokens-of-kind : (total : ℕ) (tokens : List Lexeme) (rest after : List ℕ) → Reads total tokens rest after → OfKind tokens
tokens-of-kind total [] rest after reads = tt
tokens-of-kind total (t ∷ ts) rest after reads =
    (ap (has_kind t.kind) reads.0.text ∙ reads.0.front.of_kind, tokens-of-kind total ts _ after reads.1)

behind-token : (kind : TokenKind) (test : Lexeme → Type 0) (tokens rest : List Lexeme) → token kind test tokens rest → OfKind tokens → OfKind rest
behind-token kind test tokens rest (l, is, _, _) kinds = (subst OfKind is kinds).1

behind-words : (wanted : List Wanted) (tokens rest : List Lexeme) → exactly wanted tokens rest → OfKind tokens → OfKind rest
unfolding ◌>>◌
behind-words [] tokens rest same kinds = subst OfKind same kinds
behind-words (w ∷ wanted) tokens rest (m, first, more) kinds =
    behind-words wanted m rest more (behind-token w.0 (λ lexeme. lexeme.text ≡ w.1) tokens m first kinds)

behind-targets : (has_targets : Bool) (tokens rest : List Lexeme) → targets has_targets tokens rest → OfKind tokens → OfKind rest
behind-targets true tokens rest words kinds = behind-words (pieces_of phrase.TargetLines) tokens rest words kinds
behind-targets false tokens rest same kinds = subst OfKind same kinds

-- a name that is neither quoted nor digits is spelled by its bytes
spelled-so : (is_quoted are_digits : Bool) (a b c : Spelling) → not is_quoted ≡ true → not are_digits ≡ true → cond is_quoted a (cond are_digits b c) ≡ c
spelled-so true are_digits a b c quoted digits = absurd (false≢true quoted)
spelled-so false true a b c quoted digits = absurd (false≢true digits)
spelled-so false false a b c quoted digits = refl

pub plain-spelling : (bytes : List ℕ) → is_kernel_name bytes ≡ true → spelling_of bytes ≡ Text bytes
plain-spelling [] allowed = refl
plain-spelling (b ∷ bytes) allowed =
    let both = and_parts _ _ allowed in
    spelled-so _ (list_all is_ascii_digit (b ∷ bytes)) _ _ _ both.0 (and_parts _ _ both.1).0

own-by : (names : List NameText) (number : ℕ) (text : List ℕ) → has_kind GlobalToken text ≡ true → is_kernel_name (drop 1 text) ≡ true → Spells names Global (drop 1 text) number
    → IsOwnName (slice_get names number)
unfolding has_form
own-by names number [] kind allowed spells = absurd (false≢true kind)
own-by names number (b ∷ bytes) kind allowed spells = record {
  bytes = bytes;
  entry_is = spells.1 ∙ ap (λ (s : Spelling). Some (record { kind = Global; spelling = s })) (plain-spelling bytes allowed);
  is_token = (and_parts _ (has_form named bytes) kind).1;
  allowed = allowed;
}

named-in : (names : List NameText) (name : Name) (tokens rest : List Lexeme) → written_name sort.Kernel names name tokens rest → OfKind tokens → IsOwnName (slice_get names name.number)
named-in names name tokens rest (l, is, kind_is, (allowed, placed, spells)) kinds =
    own-by names name.number l.text (ap (λ (k : TokenKind). has_kind k l.text) (sym kind_is) ∙ (subst OfKind is kinds).0) allowed spells

named-behind : (has_targets : Bool) (names : List NameText) (name : Name) (after : Production) (tokens rest : List Lexeme)
    → (targets has_targets >> words_of phrase.KernelWords >> written_name sort.Kernel names name >> after) tokens rest → OfKind tokens → IsOwnName (slice_get names name.number)
unfolding ◌>>◌
named-behind has_targets names name after tokens rest (m, target, (n, words, (o, written, more))) kinds =
    named-in names name n o written (behind-words (pieces_of phrase.KernelWords) m n words (behind-targets has_targets tokens m target kinds))

pub own-name : (text : List ℕ) (tokens : List Lexeme) (kernel : Kernel) → IsTokens text tokens → IsKernelText tokens kernel → IsOwnName (slice_get kernel.names kernel.name.number)
own-name text tokens kernel are reads =
    named-behind kernel.has_targets kernel.names kernel.name _ tokens [] reads.reads (tokens-of-kind _ tokens text [] are)
