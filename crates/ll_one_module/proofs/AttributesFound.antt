-- Attributes as readers find them.
use Rattle.std.proofs.Common.{◌≡◌, ℕ, zero, Bool, true, false, if◌then◌else◌, List, [], ◌∷◌, map, codes, bytes_eq, None, Contains, refl, ap, ap₂, ◌∙◌}
use Rattle.std.specs.Cmp.Lexicographic.{bytes_decides}
use Rattle.std.proofs.lemmas.List.Folds.{list_any_at}
use Rattle.ll_tokens.specs.declared.kinds.TokenKind.TheVariants.{Word, Attr, Str}
use Rattle.ll_tokens.specs.declared.kinds.TokenKind.{TokenKind}
use Rattle.ll_tokens.specs.Tokens.{Lexeme}
use Rattle.ll_tree.specs.declared.module.Attribute.{Attribute}
use Rattle.ll_tree.specs.declared.module.AttributeKind.{AttributeKind}
use Rattle.ll_tree.specs.declared.module.AttributeKind.TheVariants.{ZeroExt, SignExt, NoAlias, NoCapture, ReadOnly, ReadNone, WriteOnly, NoUndef, NonNull, InReg, Returned, NoFree, ImmArg, ByVal, SRet, Align, Dereferenceable, DereferenceableOrNull}
use Rattle.ll_tree.specs.declared.name.NameText.{NameText}
use Rattle.ll_tree.specs.declared.ty.LlType.{LlType}
use Rattle.ll_tree.specs.Modules.{attribute_changed, attribute_kind_changed}
use Rattle.ll_parser.specs.GrammarAttributes.{attribute, attribute_word, behind_word, any_attributes, any_function_attributes, function_attribute, function_words, text_attribute}
use Rattle.ll_parser.specs.Productions.{nothing, token, each}
use Rattle.ll_one_module.proofs.Readers.{Ahead, Reader, Test, never, begins, done, bind, to, skip, first, choose, many, Reads, Leads, Opens, seq, then', skipped, last, none, made, first-reads}
use Rattle.ll_one_module.proofs.Fronts.{either, either-left, either-right, is_mark, is_one_of, outside, lead-first, lead-or, lead-token, opens-right, lead-kind, lead-mark, lead-outside, opens-first, opens-or, opens-token, opens-mark}
use Rattle.ll_one_module.proofs.Lists.{each-reads, optional, optional-reads, or-reads, reads-second}
use Rattle.ll_one_module.proofs.NamesFound.{Numbering, read_number, renamed, number-reads}
use Rattle.ll_one_module.proofs.Tests.{operand_start, pointer_start, is_word_of}
use Rattle.ll_one_module.proofs.TypesFound.{type-reads}
use Rattle.ll_one_module.proofs.ValuesFound.{read_type, change}
use Rattle.ll_one_module.proofs.Ends.{look_up, dropped, some-reads, both-read, with-nothing}

abbrev templates : List (List ℕ × AttributeKind)
templates =
    (codes "zeroext", ZeroExt) ∷ (codes "signext", SignExt) ∷ (codes "noalias", NoAlias) ∷ (codes "nocapture", NoCapture) ∷ (codes "readonly", ReadOnly) ∷ (codes "readnone", ReadNone) ∷
    (codes "writeonly", WriteOnly) ∷ (codes "noundef", NoUndef) ∷ (codes "nonnull", NonNull) ∷ (codes "inreg", InReg) ∷ (codes "returned", Returned) ∷ (codes "nofree", NoFree) ∷
    (codes "immarg", ImmArg) ∷ (codes "byval", ByVal None) ∷ (codes "sret", SRet None) ∷ (codes "align", Align 0) ∷ (codes "dereferenceable", Dereferenceable 0) ∷
    (codes "dereferenceable_or_null", DereferenceableOrNull 0) ∷ []

abbrev template : List ℕ → AttributeKind
template = look_up templates ZeroExt

-- an attribute without what stands behind its word
abbrev blank : AttributeKind → AttributeKind
blank (ByVal t) = ByVal None
blank (SRet t) = SRet None
blank (Align bytes) = Align 0
blank (Dereferenceable bytes) = Dereferenceable 0
blank (DereferenceableOrNull bytes) = DereferenceableOrNull 0
blank kind = kind

known : (kind : AttributeKind) → template (attribute_word kind) ≡ blank kind
known ZeroExt = refl
known SignExt = refl
known NoAlias = refl
known NoCapture = refl
known ReadOnly = refl
known ReadNone = refl
known WriteOnly = refl
known NoUndef = refl
known NonNull = refl
known InReg = refl
known Returned = refl
known NoFree = refl
known ImmArg = refl
known (ByVal t) = refl
known (SRet t) = refl
known (Align bytes) = refl
known (Dereferenceable bytes) = refl
known (DereferenceableOrNull bytes) = refl

abbrev attribute_words : List (List ℕ)
attribute_words = map (λ (row : List ℕ × AttributeKind). row.0) templates

abbrev pub attribute_start : Test
attribute_start = outside operand_start (is_word_of attribute_words)

starts : (kind : AttributeKind) → attribute_start Word (attribute_word kind) ≡ true
starts ZeroExt = refl
starts SignExt = refl
starts NoAlias = refl
starts NoCapture = refl
starts ReadOnly = refl
starts ReadNone = refl
starts WriteOnly = refl
starts NoUndef = refl
starts NonNull = refl
starts InReg = refl
starts Returned = refl
starts NoFree = refl
starts ImmArg = refl
starts (ByVal t) = refl
starts (SRet t) = refl
starts (Align bytes) = refl
starts (Dereferenceable bytes) = refl
starts (DereferenceableOrNull bytes) = refl

no-pointer : (kind : AttributeKind) → pointer_start Word (attribute_word kind) ≡ false
no-pointer ZeroExt = refl
no-pointer SignExt = refl
no-pointer NoAlias = refl
no-pointer NoCapture = refl
no-pointer ReadOnly = refl
no-pointer ReadNone = refl
no-pointer WriteOnly = refl
no-pointer NoUndef = refl
no-pointer NonNull = refl
no-pointer InReg = refl
no-pointer Returned = refl
no-pointer NoFree = refl
no-pointer ImmArg = refl
no-pointer (ByVal t) = refl
no-pointer (SRet t) = refl
no-pointer (Align bytes) = refl
no-pointer (Dereferenceable bytes) = refl
no-pointer (DereferenceableOrNull bytes) = refl

-- an operand or an attribute begins so
abbrev pub head_known : Test
head_known = either operand_start attribute_start

-- a `(`, 40
abbrev pub open_start : Test
open_start = outside operand_start (is_mark 40)

pub enclosed : (NameText → ℕ) → Reader LlType
enclosed look = skip (bind (read_type look) (λ t. skip (done t)))

pub behind : (NameText → ℕ) → AttributeKind → Reader AttributeKind
behind look (ByVal t) = to ByVal (optional (begins open_start) (enclosed look))
behind look (SRet t) = to SRet (optional (begins open_start) (enclosed look))
behind look (Align bytes) = to Align read_number
behind look (Dereferenceable bytes) = skip (bind read_number (λ n. skip (done (Dereferenceable n))))
behind look (DereferenceableOrNull bytes) = skip (bind read_number (λ n. skip (done (DereferenceableOrNull n))))
behind look kind = done kind

unfoldable pub read_attribute : (NameText → ℕ) → Reader Attribute
read_attribute look =
    bind (first (λ l. let a : AttributeKind × ℕ = (template l.text, l.byte) in a)) (λ a. to (λ kind. record { kind = kind; byte = a.1 }) (behind look a.0))

-- an attribute of a function
abbrev pub function_start : Test
function_start Attr text = true
function_start Str text = true
function_start Word text = is_one_of function_words text
function_start _ text = false

abbrev pub equals_start : Test
equals_start = is_mark 61

unfoldable pub read_function_attribute : Reader ℕ
read_function_attribute = skip (choose (begins equals_start) (skip (skip (done zero))) (done zero))

unfoldable pub read_function_attributes : Reader ℕ
read_function_attributes = dropped (many (begins function_start) read_function_attribute)

-- behind attributes of functions
abbrev pub function_end : Test
function_end = either function_start equals_start

stop-none : Reads (begins equals_start) nothing (choose (begins equals_start) (skip (skip (done zero))) (done zero)) zero
stop-none = reads-second _ _ (record { leads = λ tokens rest same stop. ap (begins equals_start) same ∙ stop }) none

alone : (kind : TokenKind) (wanted : Lexeme → Type 0) → Reads (begins equals_start) (token kind wanted) read_function_attribute zero
unfolding read_function_attribute
alone kind wanted = with-nothing _ (skipped _ _ stop-none)

text-reads : Reads (begins equals_start) text_attribute read_function_attribute zero
unfolding read_function_attribute
text-reads = skipped _ _ (or-reads _ _ (begins equals_start) (opens-first _ (opens-mark 61 equals_start refl)) (skipped _ _ (last _ _)) (record { leads = λ tokens rest same stop. ap (begins equals_start) same ∙ stop }) none)

function-reads : Reads (begins equals_start) function_attribute read_function_attribute zero
function-reads = both-read _ _ (alone Attr _) (both-read _ _ text-reads (alone Word _))

pub one-of : (words : List (List ℕ)) (text : List ℕ) → Contains words text → is_one_of words text ≡ true
one-of words text (k, lt, same) = list_any_at (bytes_eq text) words k text lt (ap (bytes_eq text) same ∙ (bytes_decides text text).1 refl)

function-opens : Opens function_attribute (begins function_start)
function-opens =
    opens-or _ _ (opens-token Attr _ function_start (λ l d. refl))
    (opens-or _ _ (opens-first _ (opens-token Str _ function_start (λ l d. refl))) (opens-token Word _ function_start (λ l d. one-of function_words l.text d)))

function-leads : Leads never function_attribute (begins equals_start)
function-leads = lead-or (lead-kind Attr _ _ (λ text. refl)) (lead-or (lead-first _ (lead-kind Str _ _ (λ text. refl))) (lead-kind Word _ _ (λ text. refl)))

pub function-attributes-read : Reads (begins function_end) any_function_attributes read_function_attributes zero
unfolding read_function_attributes
function-attributes-read =
    some-reads (each (λ _. function_attribute)) (λ count. each-reads (λ x. zero) (either-left _ _) (either-right function_start _) (λ x. function-opens) (λ x. function-leads) (λ x. function-reads) count)

if-same : (b : Bool) → (if b then false else false) ≡ false
if-same true = refl
if-same false = refl

module _ (t : Numbering) where
  behind-reads : (kind : AttributeKind) → Reads (begins open_start) (behind_word t.names kind) (behind t.look (blank kind)) (attribute_kind_changed (renamed t) (λ byte. byte) kind)
  unfolding behind enclosed
  behind-reads ZeroExt = none
  behind-reads SignExt = none
  behind-reads NoAlias = none
  behind-reads NoCapture = none
  behind-reads ReadOnly = none
  behind-reads ReadNone = none
  behind-reads WriteOnly = none
  behind-reads NoUndef = none
  behind-reads NonNull = none
  behind-reads InReg = none
  behind-reads Returned = none
  behind-reads NoFree = none
  behind-reads ImmArg = none
  behind-reads (ByVal x) = made ByVal (optional-reads (change t) (λ ts e. e) (λ y. opens-first _ (opens-mark 40 _ refl)) (λ y. skipped _ _ (seq _ (type-reads t y) (lead-mark 41 _ refl) (last _ _))) x)
  behind-reads (SRet x) = made SRet (optional-reads (change t) (λ ts e. e) (λ y. opens-first _ (opens-mark 40 _ refl)) (λ y. skipped _ _ (seq _ (type-reads t y) (lead-mark 41 _ refl) (last _ _))) x)
  behind-reads (Align bytes) = made Align (number-reads bytes)
  behind-reads (Dereferenceable bytes) = skipped _ _ (then' _ (number-reads bytes) (last _ _))
  behind-reads (DereferenceableOrNull bytes) = skipped _ _ (then' _ (number-reads bytes) (last _ _))

  abbrev pub attribute_made : Attribute → Attribute
  attribute_made = attribute_changed (renamed t) (λ byte. byte)

  pub attribute-reads : (a : Attribute) → Reads (begins open_start) (attribute t.names a) (read_attribute t.look) (attribute_made a)
  unfolding read_attribute
  attribute-reads a =
      then' _ (first-reads _ Word _ (λ l k d. ap₂ (λ (kind : AttributeKind) (byte : ℕ). let b : AttributeKind × ℕ = (kind, byte) in b) (ap template d.0 ∙ known a.kind) d.1))
      (made _ (behind-reads a.kind))

  pub attribute-opens : (a : Attribute) → Opens (attribute t.names a) (begins attribute_start)
  attribute-opens a = opens-first _ (opens-token Word _ attribute_start (λ l d. ap (attribute_start Word) d.0 ∙ starts a.kind))

  attribute-leads : (a : Attribute) → Leads never (attribute t.names a) (begins open_start)
  attribute-leads a = lead-first _ (lead-kind Word _ _ (λ text. if-same (operand_start Word text)))

  -- what attributes end before
  pub attributes-read : (list : List Attribute) → Reads (begins (either attribute_start open_start)) (each (attribute t.names) list) (many (begins attribute_start) (read_attribute t.look)) (map attribute_made list)
  attributes-read list = each-reads attribute_made (either-left _ _) (either-right attribute_start _) attribute-opens attribute-leads attribute-reads list

  pub any-attributes-read : Reads (begins (either attribute_start open_start)) (any_attributes t.names) (dropped (many (begins attribute_start) (read_attribute t.look))) zero
  any-attributes-read = some-reads (each (attribute t.names)) attributes-read

  pub attribute-no-pointer : (a : Attribute) → Leads never (attribute t.names a) (begins pointer_start)
  attribute-no-pointer a = lead-first _ (lead-token Word _ pointer_start (λ l d. ap (pointer_start Word) d.0 ∙ no-pointer a.kind))

  pub attribute-outside : {u : Ahead} (test : Test) (a : Attribute) → Leads u (attribute t.names a) (begins (outside head_known test))
  attribute-outside test a = lead-outside head_known test (opens-right operand_start attribute_start (attribute-opens a))
