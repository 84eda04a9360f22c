-- Attributes, nodes and attachments are read as they are written.
use Rattle.std.proofs.Common.{◌≡◌, ℕ, true, false, List, ◌∷◌, map, drop, Option, None, Some, codes, refl, sym, ◌∙◌, ap, arith}
use Rattle.std.specs.Prelude.{option_map}
use Rattle.std.specs.Option.{option_to_list}
use Rattle.std.specs.Fmt.{decimal}
use Rattle.ll_tokens.specs.declared.kinds.TokenKind.TheVariants.{MdName, Mdn}
use Rattle.ll_tokens.specs.Forms.{has_form}
use Rattle.ll_tokens.specs.Tokens.{Lexeme, has_kind}
use Rattle.ll_tree.specs.declared.module.Attribute.{Attribute}
use Rattle.ll_tree.specs.declared.module.AttributeKind.{AttributeKind}
use Rattle.ll_tree.specs.declared.module.AttributeKind.TheVariants.{ZeroExt, SignExt, NoAlias, NoCapture, ReadOnly, ReadNone, WriteOnly, NoUndef, NonNull, InReg, Returned, NoFree, ImmArg, ByVal, SRet, Align, Dereferenceable, DereferenceableOrNull}
use Rattle.ll_tree.specs.declared.module.NodeRef.{NodeRef}
use Rattle.ll_tree.specs.declared.name.NameText.{NameText}
use Rattle.ll_tree.specs.declared.ty.LlType.{LlType}
use Rattle.ll_tree.specs.Modules.{attribute_changed, attribute_kind_changed, node_ref_changed}
use Rattle.ll_tree.specs.Names.{name_unplaced}
use Rattle.ll_parser.specs.GrammarAttributes.{attachment, attribute, attribute_word, behind_word, node_name}
use Rattle.ll_parser.specs.GrammarTypes.{number, ty}
use Rattle.ll_parser.specs.Productions.{Production, ◌>>◌, each, mark, token, word}
use Rattle.ll_parser.specs.Spellings.{decimal_value}
use Rattle.ll_printed.specs.FunctionPhrases.{attribute_phrase, behind_word_phrase, enclosed_phrase}
use Rattle.ll_printed.specs.ModulePhrases.{attachment_phrase, node_ref_phrase}
use Rattle.ll_phrases.specs.Phrases.{Mark, Solid, ◌&◌, a_number, a_word, if_some}
use Rattle.ll_phrases.proofs.NameTexts.{decimal-digits, node-kind}
use Rattle.ll_phrases.proofs.TypesWritten.{number-fixed, number-small, type-written}
use Rattle.ll_phrases.proofs.ValuesWritten.{bare_type}
use Rattle.ll_phrases.proofs.Written.{Fixed, Written, any-fixed, behind-blank, constant, fixed-behind-blank, fixed-both, fixed-then, loose-written, made, made-at, mark-fixed, nothing-fixed, nothing-written, some-again, solid-laid, then-fixed, word-fixed}
use Rattle.ll_printed.proofs.Begun.{byte_of}
use Rattle.ll_printed.proofs.OpParts.{no_place}

abbrev pub bare_kind : AttributeKind → AttributeKind
bare_kind = attribute_kind_changed name_unplaced no_place

abbrev pub bare_attribute : Attribute → Attribute
bare_attribute = attribute_changed name_unplaced no_place

abbrev pub bare_node : NodeRef → NodeRef
bare_node = node_ref_changed name_unplaced no_place

module _ (names : List NameText) where
  enclosed-written : (t : LlType) (tokens rest : List Lexeme) → (mark 40 >> ty names t >> mark 41) tokens rest → Written true true bare_type (λ u. mark 40 >> ty names u >> mark 41) (enclosed_phrase names t) t
  unfolding ◌>>◌
  enclosed-written t tokens rest (a, opens, (b, is, closes)) = fixed-then (mark-fixed 40 refl) (then-fixed (type-written names t a b is) (mark-fixed 41 refl) refl) refl

  -- a number between brackets
  bracketed-fixed : (bytes : ℕ) (tokens rest : List Lexeme) → (mark 40 >> number bytes >> mark 41) tokens rest → Fixed true true (mark 40 >> number bytes >> mark 41) (Mark 40 & a_number bytes & Mark 41)
  unfolding ◌>>◌
  bracketed-fixed bytes tokens rest (a, opens, (b, is, closes)) = fixed-both (mark-fixed 40 refl) (fixed-both (number-fixed bytes (number-small bytes a b is)) (mark-fixed 41 refl) refl) refl

  -- the word of an attribute and what stands behind it
  abbrev worded : AttributeKind → Production
  worded kind = word (attribute_word kind) >> behind_word names kind

  kind-written : (kind : AttributeKind) (tokens rest : List Lexeme) → behind_word names kind tokens rest → Written false false bare_kind worded (a_word (attribute_word kind) & behind_word_phrase names kind) kind
  unfolding ◌>>◌ has_form
  kind-written ZeroExt tokens rest d = constant bare_kind worded ZeroExt (fixed-both (word-fixed (codes "zeroext") refl) nothing-fixed refl)
  kind-written SignExt tokens rest d = constant bare_kind worded SignExt (fixed-both (word-fixed (codes "signext") refl) nothing-fixed refl)
  kind-written NoAlias tokens rest d = constant bare_kind worded NoAlias (fixed-both (word-fixed (codes "noalias") refl) nothing-fixed refl)
  kind-written NoCapture tokens rest d = constant bare_kind worded NoCapture (fixed-both (word-fixed (codes "nocapture") refl) nothing-fixed refl)
  kind-written ReadOnly tokens rest d = constant bare_kind worded ReadOnly (fixed-both (word-fixed (codes "readonly") refl) nothing-fixed refl)
  kind-written ReadNone tokens rest d = constant bare_kind worded ReadNone (fixed-both (word-fixed (codes "readnone") refl) nothing-fixed refl)
  kind-written WriteOnly tokens rest d = constant bare_kind worded WriteOnly (fixed-both (word-fixed (codes "writeonly") refl) nothing-fixed refl)
  kind-written NoUndef tokens rest d = constant bare_kind worded NoUndef (fixed-both (word-fixed (codes "noundef") refl) nothing-fixed refl)
  kind-written NonNull tokens rest d = constant bare_kind worded NonNull (fixed-both (word-fixed (codes "nonnull") refl) nothing-fixed refl)
  kind-written InReg tokens rest d = constant bare_kind worded InReg (fixed-both (word-fixed (codes "inreg") refl) nothing-fixed refl)
  kind-written Returned tokens rest d = constant bare_kind worded Returned (fixed-both (word-fixed (codes "returned") refl) nothing-fixed refl)
  kind-written NoFree tokens rest d = constant bare_kind worded NoFree (fixed-both (word-fixed (codes "nofree") refl) nothing-fixed refl)
  kind-written ImmArg tokens rest d = constant bare_kind worded ImmArg (fixed-both (word-fixed (codes "immarg") refl) nothing-fixed refl)
  kind-written (ByVal t) tokens rest d =
      made (λ u. ByVal u) (λ u. ByVal u) (λ u. refl) (λ u ts rs is. is) (fixed-then (word-fixed (codes "byval") refl) (some-again enclosed-written t tokens rest d) refl)
  kind-written (SRet t) tokens rest d =
      made (λ u. SRet u) (λ u. SRet u) (λ u. refl) (λ u ts rs is. is) (fixed-then (word-fixed (codes "sret") refl) (some-again enclosed-written t tokens rest d) refl)
  kind-written (Align bytes) tokens rest d =
      constant bare_kind worded (Align bytes) (fixed-both (word-fixed (codes "align") refl) (fixed-behind-blank (number-fixed bytes (number-small bytes tokens rest d))) refl)
  kind-written (Dereferenceable bytes) tokens rest d =
      constant bare_kind worded (Dereferenceable bytes) (any-fixed (fixed-both (word-fixed (codes "dereferenceable") refl) (bracketed-fixed bytes tokens rest d) refl))
  kind-written (DereferenceableOrNull bytes) tokens rest d =
      constant bare_kind worded (DereferenceableOrNull bytes) (any-fixed (fixed-both (word-fixed (codes "dereferenceable_or_null") refl) (bracketed-fixed bytes tokens rest d) refl))

  pub attribute-written : (a : Attribute) (tokens rest : List Lexeme) → attribute names a tokens rest → Written true false bare_attribute (attribute names) (attribute_phrase names a) a
  unfolding ◌>>◌
  attribute-written a tokens rest (m, w, behind) =
      made-at a (λ ts x. record { kind = x; byte = byte_of ts }) (λ x. record { kind = x; byte = 0 }) (λ ts x. refl) refl
      (λ x same ts rs (k, (l, is, of, text), has). (k, (l, is, of, (text, sym (ap byte_of is))), has))
      (behind-blank (kind-written a.kind m rest behind))

-- a node that a text names
pub node-written : (node : NodeRef) (tokens rest : List Lexeme) → node_name node tokens rest → Written false false bare_node node_name (node_ref_phrase node) node
node-written node tokens rest (l, is, of, (value, small, place)) =
    let digits = decimal-digits node.number (omega (arith, small)) in
    record {
      laid = solid-laid Mdn (33 ∷ decimal node.number) (node-kind node.number (decimal node.number) digits);
      reads = λ ts rs (k, at, kind, same). (record { number = node.number; byte = k.byte }, refl, (k, at, kind, (ap (λ t. decimal_value (drop 1 t)) same ∙ digits.value, small, refl)));
    }

-- an attachment that is there or isn't, as a list of them
abbrev pub attached : List ℕ → Option NodeRef → List (List ℕ × NodeRef)
attached name node = map (λ (n : NodeRef). (name, n)) (option_to_list node)

name-fixed : (name : List ℕ) → has_kind MdName (33 ∷ name) ≡ true → Fixed false false (token MdName (λ lexeme. drop 1 lexeme.text ≡ name)) (Solid MdName (33 ∷ name))
name-fixed name has = record { laid = solid-laid MdName (33 ∷ name) has; reads = λ ts rs (k, at, kind, same). (k, at, kind, ap (drop 1) same) }

pub attachment-written : (name : List ℕ) → has_kind MdName (33 ∷ name) ≡ true → (node : Option NodeRef) → ((n : NodeRef) → node ≡ Some n → (tokens : List Lexeme) × (rest : List Lexeme) × node_name n tokens rest)
    → Written true false (option_map bare_node) (λ n. each attachment (attached name n)) (if_some (attachment_phrase name) node) node
unfolding ◌>>◌
attachment-written name has None derived = nothing-written (option_map bare_node) (λ n. each attachment (attached name n)) None (λ ts rs is. is)
attachment-written name has (Some n) derived =
    let (tokens, rest, is) = derived n refl in
    loose-written (made (λ (x : NodeRef). Some x) (λ x. Some x) (λ x. refl) (λ x ts rs d. (rs, d, refl))
    (behind-blank (fixed-then (name-fixed name has) (behind-blank (node-written n tokens rest is)) refl)))
