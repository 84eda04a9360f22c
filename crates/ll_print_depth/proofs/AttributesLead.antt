-- The walk over brackets goes through attributes, kept or left out, and through attachments.
use Rattle.std.proofs.Common.{◌≡◌, ℕ, zero, suc, ◌<◌, Bool, true, false, not, List, [], ◌∷◌, length, codes, Option, None, Some, refl, sym, ap, ◌∙◌, subst, inl, inr, arith}
use Rattle.std.specs.Prelude.{Contains, bytes_eq, slice_index_or}
use Rattle.std.specs.List.{list_all}
use Rattle.std.proofs.lemmas.Bool.{and_parts}
use Rattle.ll_tokens.specs.declared.kinds.TokenKind.TheVariants.{Attr, MdName, Mdn, Str, Word}
use Rattle.ll_tokens.specs.Tokens.{Lexeme}
use Rattle.ll_tree.specs.declared.module.Attribute.{Attribute}
use Rattle.ll_tree.specs.declared.module.AttributeKind.{AttributeKind}
use Rattle.ll_tree.specs.declared.module.AttributeKind.TheVariants.{ZeroExt, SignExt, NoAlias, NoCapture, ReadOnly, ReadNone, WriteOnly, NoUndef, NonNull, InReg, Returned, NoFree, ImmArg, ByVal, SRet, Align, Dereferenceable, DereferenceableOrNull}
use Rattle.ll_tree.specs.declared.module.NodeRef.{NodeRef}
use Rattle.ll_tree.specs.declared.name.NameText.{NameText}
use Rattle.ll_tree.specs.declared.ty.LlType.{LlType}
use Rattle.ll_parser.specs.GrammarAttributes.{any_attachments, any_attributes, any_function_attributes, attachment, attribute, attribute_word, behind_word, function_attribute, function_words, node_name, placed_word}
use Rattle.ll_parser.specs.GrammarTypes.{number, ty}
use Rattle.ll_parser.specs.Productions.{Production, ◌>>◌, each, if_there, mark}
use Rattle.ll_printed.specs.FunctionPhrases.{attribute_phrase, behind_word_phrase, enclosed_phrase}
use Rattle.ll_printed.specs.ModulePhrases.{node_ref_phrase}
use Rattle.ll_phrases.specs.Phrases.{Mark, Phrase, ◌&◌, a_number, a_word, each_phrase, if_some}
use Rattle.ll_print_depth.proofs.Passing.{IsShallow, Leads, closing-leads, counted-leads, empty-leads, gap-leads, left-of, mark-passes, plain-leads, plain-of, plain-passes, then-leads, token-leads, token-left-out, word-plain}
use Rattle.ll_print_depth.proofs.TypesLead.{number-leads, quiet-group, quiet-node, quiet-node-name, quiet-string, type-leads}

pub attribute-no-group : (kind : AttributeKind) → bytes_eq (attribute_word kind) (codes "attributes") ≡ false
attribute-no-group ZeroExt = refl
attribute-no-group SignExt = refl
attribute-no-group NoAlias = refl
attribute-no-group NoCapture = refl
attribute-no-group ReadOnly = refl
attribute-no-group ReadNone = refl
attribute-no-group WriteOnly = refl
attribute-no-group NoUndef = refl
attribute-no-group NonNull = refl
attribute-no-group InReg = refl
attribute-no-group Returned = refl
attribute-no-group NoFree = refl
attribute-no-group ImmArg = refl
attribute-no-group (ByVal t) = refl
attribute-no-group (SRet t) = refl
attribute-no-group (Align bytes) = refl
attribute-no-group (Dereferenceable bytes) = refl
attribute-no-group (DereferenceableOrNull bytes) = refl

pub placed-leads : {a : List Bool} (text : List ℕ) (byte : ℕ) (tokens rest : List Lexeme) → bytes_eq text (codes "attributes") ≡ false → placed_word text byte tokens rest → Leads a a tokens rest (a_word text)
placed-leads text byte tokens rest isnt (l, is, of, (same, place)) = plain-passes Word text l tokens rest is (plain-of Word text l of same (word-plain text isnt)) (word-plain text isnt)

-- lists, each item of which leads on
pub each-leads : {A : Type 0} (item : A → Production) (phrase : A → Phrase) (a : List Bool) → ((x : A) (tokens rest : List Lexeme) → item x tokens rest → Leads a a tokens rest (phrase x)) → (xs : List A) (tokens rest : List Lexeme) → each item xs tokens rest
    → Leads a a tokens rest (each_phrase phrase xs)
unfolding ◌>>◌
each-leads item phrase a one [] tokens rest same = empty-leads same
each-leads item phrase a one (x ∷ xs) tokens rest (m, first, others) = then-leads (one x tokens m first) (each-leads item phrase a one xs m rest others)

pub some-leads : {A : Type 0} (item : A → Production) (phrase : A → Phrase) (a : List Bool) → ((x : A) (tokens rest : List Lexeme) → item x tokens rest → Leads a a tokens rest (phrase x)) → (x : Option A) (tokens rest : List Lexeme) → if_there item x tokens rest
    → Leads a a tokens rest (if_some phrase x)
some-leads item phrase a one None tokens rest same = empty-leads same
some-leads item phrase a one (Some x) tokens rest is = one x tokens rest is

-- lists that are left out
pub each-left-out : {A : Type 0} (item : A → Production) (a : List Bool) → ((x : A) (tokens rest : List Lexeme) → item x tokens rest → IsShallow a tokens → IsShallow a rest) → (xs : List A) (tokens rest : List Lexeme) → each item xs tokens rest → IsShallow a tokens → IsShallow a rest
unfolding ◌>>◌
each-left-out item a one [] tokens rest same shallow = subst (λ (ts : List Lexeme). IsShallow a ts) same shallow
each-left-out item a one (x ∷ xs) tokens rest (m, first, others) shallow = each-left-out item a one xs m rest others (one x tokens m first shallow)

module _ (names : List NameText) where
  enclosed-leads : {a : List Bool} (t : LlType) (tokens rest : List Lexeme) → (mark 40 >> ty names t >> mark 41) tokens rest → Leads a a tokens rest (enclosed_phrase names t)
  unfolding ◌>>◌
  enclosed-leads t tokens rest (p, opens, (q, is, closes)) = counted-leads 40 tokens p rest (λ next. refl) opens (then-leads (type-leads names t p q is) (closing-leads true 41 q rest (λ next. refl) closes))

  bracketed-leads : {a : List Bool} (bytes : ℕ) (tokens rest : List Lexeme) → (mark 40 >> number bytes >> mark 41) tokens rest → Leads a a tokens rest (Mark 40 & a_number bytes & Mark 41)
  unfolding ◌>>◌
  bracketed-leads bytes tokens rest (p, opens, (q, is, closes)) = counted-leads 40 tokens p rest (λ next. refl) opens (then-leads (number-leads bytes p q is) (closing-leads true 41 q rest (λ next. refl) closes))

  behind-word-leads : {a : List Bool} (kind : AttributeKind) (tokens rest : List Lexeme) → behind_word names kind tokens rest → Leads a a tokens rest (behind_word_phrase names kind)
  unfolding ◌>>◌
  behind-word-leads ZeroExt tokens rest same = empty-leads same
  behind-word-leads SignExt tokens rest same = empty-leads same
  behind-word-leads NoAlias tokens rest same = empty-leads same
  behind-word-leads NoCapture tokens rest same = empty-leads same
  behind-word-leads ReadOnly tokens rest same = empty-leads same
  behind-word-leads ReadNone tokens rest same = empty-leads same
  behind-word-leads WriteOnly tokens rest same = empty-leads same
  behind-word-leads NoUndef tokens rest same = empty-leads same
  behind-word-leads NonNull tokens rest same = empty-leads same
  behind-word-leads InReg tokens rest same = empty-leads same
  behind-word-leads Returned tokens rest same = empty-leads same
  behind-word-leads NoFree tokens rest same = empty-leads same
  behind-word-leads ImmArg tokens rest same = empty-leads same
  behind-word-leads (ByVal None) tokens rest same = empty-leads same
  behind-word-leads (ByVal (Some t)) tokens rest d = enclosed-leads t tokens rest d
  behind-word-leads (SRet None) tokens rest same = empty-leads same
  behind-word-leads (SRet (Some t)) tokens rest d = enclosed-leads t tokens rest d
  behind-word-leads (Align bytes) tokens rest d = gap-leads (number-leads bytes tokens rest d)
  behind-word-leads (Dereferenceable bytes) tokens rest d = bracketed-leads bytes tokens rest d
  behind-word-leads (DereferenceableOrNull bytes) tokens rest d = bracketed-leads bytes tokens rest d

  pub attribute-leads : {a : List Bool} (x : Attribute) (tokens rest : List Lexeme) → attribute names x tokens rest → Leads a a tokens rest (attribute_phrase names x)
  unfolding ◌>>◌
  attribute-leads x tokens rest (m, w, behind) = gap-leads (then-leads (placed-leads (attribute_word x.kind) x.byte tokens m (attribute-no-group x.kind) w) (behind-word-leads x.kind m rest behind))

  pub attributes-left-out : (a : List Bool) (tokens rest : List Lexeme) → any_attributes names tokens rest → IsShallow a tokens → IsShallow a rest
  attributes-left-out a tokens rest (dropped, are) shallow = each-left-out (attribute names) a (λ x ts rs is. left-of (attribute-leads x ts rs is)) dropped tokens rest are shallow

pub node-leads : {a : List Bool} (n : NodeRef) (tokens rest : List Lexeme) → node_name n tokens rest → Leads a a tokens rest (node_ref_phrase n)
node-leads n tokens rest d = token-leads Mdn _ _ tokens rest quiet-node d

pub attachment-left-out : (a : List Bool) (x : List ℕ × NodeRef) (tokens rest : List Lexeme) → attachment x tokens rest → IsShallow a tokens → IsShallow a rest
unfolding ◌>>◌
attachment-left-out a x tokens rest (m, name, node) shallow = token-left-out a Mdn _ m rest quiet-node node (token-left-out a MdName _ tokens m quiet-node-name name shallow)

pub comma-left-out : (a : List Bool) (tokens rest : List Lexeme) → mark 44 tokens rest → IsShallow a tokens → IsShallow a rest
comma-left-out a tokens rest is = left-of (mark-passes 44 tokens rest (λ next. refl) is)

pub attachments-left-out : (a : List Bool) (tokens rest : List Lexeme) → any_attachments tokens rest → IsShallow a tokens → IsShallow a rest
unfolding ◌>>◌
attachments-left-out a tokens rest (dropped, are) shallow =
    each-left-out (λ (x : List ℕ × NodeRef). mark 44 >> attachment x) a (λ x ts rs (m, comma_is, is) s. attachment-left-out a x m rs is (comma-left-out a ts m comma_is s)) dropped tokens rest are shallow

-- each text of a list passes a test that all pass
listed-passes : (test : List ℕ → Bool) (texts : List (List ℕ)) (text : List ℕ) (k : ℕ) → list_all test texts ≡ true → k < length texts → slice_index_or texts k text ≡ text → test text ≡ true
listed-passes test [] text k all lt is = absurd (omega (arith, lt))
listed-passes test (t ∷ texts) text zero all lt is = ap test (sym is) ∙ (and_parts _ _ all).0
listed-passes test (t ∷ texts) text (suc k) all lt is = listed-passes test texts text k (and_parts _ _ all).1 (omega (arith, lt)) is

function-word-no-group : (text : List ℕ) → Contains function_words text → bytes_eq text (codes "attributes") ≡ false
function-word-no-group text (k, lt, is) = from-not _ (listed-passes (λ t. not (bytes_eq t (codes "attributes"))) function_words text k refl lt is)
  where
    from-not : (b : Bool) → not b ≡ true → b ≡ false
    from-not true isnt = absurd cc
    from-not false isnt = refl

function-attribute-left-out : (a : List Bool) (tokens rest : List Lexeme) → function_attribute tokens rest → IsShallow a tokens → IsShallow a rest
unfolding ◌>>◌
function-attribute-left-out a tokens rest (inl group) shallow = token-left-out a Attr _ tokens rest quiet-group group shallow
function-attribute-left-out a tokens rest (inr (inl (m, text, inl (k, equal, other)))) shallow =
    token-left-out a Str _ k rest quiet-string other (left-of (mark-passes 61 m k (λ next. refl) equal) (token-left-out a Str _ tokens m quiet-string text shallow))
function-attribute-left-out a tokens rest (inr (inl (m, text, inr same))) shallow = subst (λ (ts : List Lexeme). IsShallow a ts) same (token-left-out a Str _ tokens m quiet-string text shallow)
function-attribute-left-out a tokens rest (inr (inr (l, is, of, contained))) shallow =
    plain-leads a l tokens rest is (plain-of Word l.text l of refl (word-plain l.text (function-word-no-group l.text contained))) shallow

pub function-attributes-left-out : (a : List Bool) (tokens rest : List Lexeme) → any_function_attributes tokens rest → IsShallow a tokens → IsShallow a rest
function-attributes-left-out a tokens rest (count, are) shallow = each-left-out (λ (_ : Unit {0}). function_attribute) a (λ x ts rs is. function-attribute-left-out a ts rs is) count tokens rest are shallow
