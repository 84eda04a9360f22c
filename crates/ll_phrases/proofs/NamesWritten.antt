-- Names are read as they are written.
use Rattle.std.proofs.Common.{◌≡◌, ℕ, true, false, List, ◌∷◌, drop, refl, sym, ap, subst}
use Rattle.ll_tokens.specs.declared.kinds.TokenKind.{TokenKind}
use Rattle.ll_tokens.specs.declared.kinds.TokenKind.TheVariants.{Global as GlobalToken, Local as LocalToken}
use Rattle.ll_tokens.specs.Forms.{has_form}
use Rattle.ll_tokens.specs.Tokens.{Lexeme, has_kind}
use Rattle.ll_tree.specs.declared.name.Name.{Name}
use Rattle.ll_tree.specs.declared.name.NameKind.{NameKind}
use Rattle.ll_tree.specs.declared.name.NameKind.TheVariants.{Global as GlobalName, Local as LocalName, Struct as StructName}
use Rattle.ll_tree.specs.declared.name.NameText.{NameText}
use Rattle.ll_tree.specs.Names.{name_unplaced}
use Rattle.ll_parser.specs.GrammarTypes.{type_name}
use Rattle.ll_parser.specs.GrammarValues.{global, local}
use Rattle.ll_parser.specs.Productions.{Production, token}
use Rattle.ll_parser.specs.Spellings.{Spells}
use Rattle.ll_phrases.specs.Phrases.{Solid}
use Rattle.ll_phrases.specs.Texts.{global_phrase, local_phrase, number_text}
use Rattle.ll_phrases.proofs.NameTexts.{IsNamed, is-named, named-text, spells-again}
use Rattle.ll_phrases.proofs.Written.{Written, solid-laid}

module _ (names : List NameText) where
  -- a name of a kind behind a mark, with its place
  abbrev name_token : TokenKind → NameKind → Name → Production
  name_token token_kind kind name = token token_kind (λ lexeme. (name.byte ≡ lexeme.byte) × Spells names kind (drop 1 lexeme.text) name.number)

  name-written : (token_kind : TokenKind) (kind : NameKind) (prefix : ℕ) (name : Name) (is : IsNamed names kind name.number) → has_kind token_kind (prefix ∷ number_text names name.number) ≡ true
      → Written false false name_unplaced (name_token token_kind kind) (Solid token_kind (prefix ∷ number_text names name.number)) name
  name-written token_kind kind prefix name is has = record {
    laid = solid-laid token_kind _ has;
    reads = λ tokens rest (l, at, of, same). (
      record { number = name.number; byte = l.byte },
      refl,
      (l, at, of, (refl, subst (λ (t : List ℕ). Spells names kind t name.number) (sym (ap (drop 1) same)) (spells-again names kind name.number (number_text names name.number) is (named-text names kind name.number is)))),
    );
  }

  pub type-name-written : (name : Name) (tokens rest : List Lexeme) → type_name names name tokens rest → Written false false name_unplaced (type_name names) (local_phrase names name) name
  unfolding has_form
  type-name-written name tokens rest (l, is, kind, (byte, spells)) =
      let named = is-named names StructName (drop 1 l.text) name.number spells in
      name-written LocalToken StructName 37 name named (named-text names StructName name.number named).form

  pub local-named : (name : Name) → IsNamed names LocalName name.number → Written false false name_unplaced (local names) (local_phrase names name) name
  unfolding has_form
  local-named name named = name-written LocalToken LocalName 37 name named (named-text names LocalName name.number named).form

  pub local-written : (name : Name) (tokens rest : List Lexeme) → local names name tokens rest → Written false false name_unplaced (local names) (local_phrase names name) name
  local-written name tokens rest (l, is, kind, (byte, spells)) = local-named name (is-named names LocalName (drop 1 l.text) name.number spells)

  pub global-written : (name : Name) (tokens rest : List Lexeme) → global names name tokens rest → Written false false name_unplaced (global names) (global_phrase names name) name
  unfolding has_form
  global-written name tokens rest (l, is, kind, (byte, spells)) =
      let named = is-named names GlobalName (drop 1 l.text) name.number spells in
      name-written GlobalToken GlobalName 64 name named (named-text names GlobalName name.number named).form
