-- Attributes by their words: the word says which attribute it is, and what stands behind it.
use Rattle.std.proofs.Common.{◌≡◌, ℕ, Bool, true, false, true≢false, ◌||◌, if◌then◌else◌, List, Option, None, codes, refl, sym, ap, ◌∙◌}
use Rattle.std.specs.Str.{bytes_eq}
use Rattle.ll_tokens.specs.Tokens.{Lexeme}
use Rattle.ll_tree.specs.declared.module.AttributeKind.{AttributeKind}
use Rattle.ll_tree.specs.declared.module.AttributeKind.TheVariants.{ZeroExt, SignExt, NoAlias, NoCapture, ReadOnly, ReadNone, WriteOnly, NoUndef, NonNull, InReg, Returned, NoFree, ImmArg, ByVal, SRet, Align, Dereferenceable, DereferenceableOrNull}
use Rattle.ll_tree.specs.declared.name.NameText.{NameText}
use Rattle.ll_tree.specs.declared.ty.LlType.{LlType}
use Rattle.ll_parser.specs.GrammarAttributes.{attribute_word}
use Rattle.ll_parser.specs.GrammarTypes.{number}
use Rattle.ll_parser.specs.Productions.{Production}
use Rattle.ll_parser.specs.Spaces.{bracketed_number}
use Rattle.ll_attributes.specs.AttributeParts.{IsBare, behind_word_here, brackets_here}

-- what stands behind a word
pub data Form : Type 0 where
  Bare : Form
  Typed : Form
  Numbered : Form
  Bracketed : Form

unfoldable pub form_of : List ℕ → Form
form_of text =
    if bytes_eq text (codes "byval") then Typed
    else (if bytes_eq text (codes "sret") then Typed
    else (if bytes_eq text (codes "align") then Numbered
    else (if bytes_eq text (codes "dereferenceable") then Bracketed
    else (if bytes_eq text (codes "dereferenceable_or_null") then Bracketed
    else Bare))))

abbrev pub type_in : AttributeKind → Option LlType
type_in (ByVal t) = t
type_in (SRet t) = t
type_in _ = None

abbrev pub bytes_in : AttributeKind → ℕ
bytes_in (Align n) = n
bytes_in (Dereferenceable n) = n
bytes_in (DereferenceableOrNull n) = n
bytes_in _ = 0

-- the attribute of a word
unfoldable pub made : List ℕ → Option LlType → ℕ → AttributeKind
made text t n =
    if bytes_eq text (codes "zeroext") then ZeroExt
    else (if bytes_eq text (codes "signext") then SignExt
    else (if bytes_eq text (codes "noalias") then NoAlias
    else (if bytes_eq text (codes "nocapture") then NoCapture
    else (if bytes_eq text (codes "readonly") then ReadOnly
    else (if bytes_eq text (codes "readnone") then ReadNone
    else (if bytes_eq text (codes "writeonly") then WriteOnly
    else (if bytes_eq text (codes "noundef") then NoUndef
    else (if bytes_eq text (codes "nonnull") then NonNull
    else (if bytes_eq text (codes "inreg") then InReg
    else (if bytes_eq text (codes "returned") then Returned
    else (if bytes_eq text (codes "nofree") then NoFree
    else (if bytes_eq text (codes "immarg") then ImmArg
    else (if bytes_eq text (codes "byval") then ByVal t
    else (if bytes_eq text (codes "sret") then SRet t
    else (if bytes_eq text (codes "align") then Align n
    else (if bytes_eq text (codes "dereferenceable") then Dereferenceable n
    else DereferenceableOrNull n))))))))))))))))

pub made_of_word : (kind : AttributeKind) → made (attribute_word kind) (type_in kind) (bytes_in kind) ≡ kind
unfolding made
made_of_word ZeroExt = refl
made_of_word SignExt = refl
made_of_word NoAlias = refl
made_of_word NoCapture = refl
made_of_word ReadOnly = refl
made_of_word ReadNone = refl
made_of_word WriteOnly = refl
made_of_word NoUndef = refl
made_of_word NonNull = refl
made_of_word InReg = refl
made_of_word Returned = refl
made_of_word NoFree = refl
made_of_word ImmArg = refl
made_of_word (ByVal t) = refl
made_of_word (SRet t) = refl
made_of_word (Align n) = refl
made_of_word (Dereferenceable n) = refl
made_of_word (DereferenceableOrNull n) = refl

-- what stands behind a word of a form, with the type and the number of the attribute
abbrev pub behind_form : List NameText → Form → Option LlType → ℕ → Production
behind_form names Bare t n tokens rest = (t ≡ None) × (n ≡ 0) × (tokens ≡ rest)
behind_form names Typed t n tokens rest = (n ≡ 0) × brackets_here names t tokens rest
behind_form names Numbered t n tokens rest = (t ≡ None) × number n tokens rest
behind_form names Bracketed t n tokens rest = (t ≡ None) × bracketed_number n tokens rest

pub in_form : (names : List NameText) (kind : AttributeKind) (tokens rest : List Lexeme) → behind_word_here names kind tokens rest → behind_form names (form_of (attribute_word kind)) (type_in kind) (bytes_in kind) tokens rest
unfolding form_of
in_form names ZeroExt tokens rest d = (refl, refl, d)
in_form names SignExt tokens rest d = (refl, refl, d)
in_form names NoAlias tokens rest d = (refl, refl, d)
in_form names NoCapture tokens rest d = (refl, refl, d)
in_form names ReadOnly tokens rest d = (refl, refl, d)
in_form names ReadNone tokens rest d = (refl, refl, d)
in_form names WriteOnly tokens rest d = (refl, refl, d)
in_form names NoUndef tokens rest d = (refl, refl, d)
in_form names NonNull tokens rest d = (refl, refl, d)
in_form names InReg tokens rest d = (refl, refl, d)
in_form names Returned tokens rest d = (refl, refl, d)
in_form names NoFree tokens rest d = (refl, refl, d)
in_form names ImmArg tokens rest d = (refl, refl, d)
in_form names (ByVal t) tokens rest d = (refl, d)
in_form names (SRet t) tokens rest d = (refl, d)
in_form names (Align n) tokens rest d = (refl, d)
in_form names (Dereferenceable n) tokens rest d = (refl, d)
in_form names (DereferenceableOrNull n) tokens rest d = (refl, d)

-- whether a text is the word of an attribute
unfoldable pub is_attribute_word : List ℕ → Bool
is_attribute_word text =
    (bytes_eq text (codes "zeroext") ||
    (bytes_eq text (codes "signext") ||
    (bytes_eq text (codes "noalias") ||
    (bytes_eq text (codes "nocapture") ||
    (bytes_eq text (codes "readonly") ||
    (bytes_eq text (codes "readnone") ||
    (bytes_eq text (codes "writeonly") ||
    (bytes_eq text (codes "noundef") ||
    (bytes_eq text (codes "nonnull") ||
    (bytes_eq text (codes "inreg") ||
    (bytes_eq text (codes "returned") ||
    (bytes_eq text (codes "nofree") ||
    (bytes_eq text (codes "immarg") ||
    (bytes_eq text (codes "byval") ||
    (bytes_eq text (codes "sret") ||
    (bytes_eq text (codes "align") ||
    (bytes_eq text (codes "dereferenceable") ||
    bytes_eq text (codes "dereferenceable_or_null"))))))))))))))))))

pub word_is_one : (kind : AttributeKind) → is_attribute_word (attribute_word kind) ≡ true
unfolding is_attribute_word
word_is_one ZeroExt = refl
word_is_one SignExt = refl
word_is_one NoAlias = refl
word_is_one NoCapture = refl
word_is_one ReadOnly = refl
word_is_one ReadNone = refl
word_is_one WriteOnly = refl
word_is_one NoUndef = refl
word_is_one NonNull = refl
word_is_one InReg = refl
word_is_one Returned = refl
word_is_one NoFree = refl
word_is_one ImmArg = refl
word_is_one (ByVal t) = refl
word_is_one (SRet t) = refl
word_is_one (Align n) = refl
word_is_one (Dereferenceable n) = refl
word_is_one (DereferenceableOrNull n) = refl

-- a text that is none is no attribute's word
pub other_word : (text : List ℕ) → is_attribute_word text ≡ false → (kind : AttributeKind) → attribute_word kind ≡ text → ⊥
other_word text other kind same = true≢false (sym (word_is_one kind) ∙ ap is_attribute_word same ∙ other)

-- a word that is none of the five behind which something stands, nor one of the others
pub no_kind : (text : List ℕ) → (text ≡ codes "byval" → ⊥) → (text ≡ codes "sret" → ⊥) → (text ≡ codes "align" → ⊥) → (text ≡ codes "dereferenceable" → ⊥) → (text ≡ codes "dereferenceable_or_null" → ⊥) → ((kind : AttributeKind) → IsBare kind → attribute_word kind ≡ text → ⊥) → (kind : AttributeKind) → attribute_word kind ≡ text → ⊥
no_kind text by_val s_ret align bytes or_null bare (ByVal t) same = by_val (sym same)
no_kind text by_val s_ret align bytes or_null bare (SRet t) same = s_ret (sym same)
no_kind text by_val s_ret align bytes or_null bare (Align n) same = align (sym same)
no_kind text by_val s_ret align bytes or_null bare (Dereferenceable n) same = bytes (sym same)
no_kind text by_val s_ret align bytes or_null bare (DereferenceableOrNull n) same = or_null (sym same)
no_kind text by_val s_ret align bytes or_null bare ZeroExt same = bare ZeroExt tt same
no_kind text by_val s_ret align bytes or_null bare SignExt same = bare SignExt tt same
no_kind text by_val s_ret align bytes or_null bare NoAlias same = bare NoAlias tt same
no_kind text by_val s_ret align bytes or_null bare NoCapture same = bare NoCapture tt same
no_kind text by_val s_ret align bytes or_null bare ReadOnly same = bare ReadOnly tt same
no_kind text by_val s_ret align bytes or_null bare ReadNone same = bare ReadNone tt same
no_kind text by_val s_ret align bytes or_null bare WriteOnly same = bare WriteOnly tt same
no_kind text by_val s_ret align bytes or_null bare NoUndef same = bare NoUndef tt same
no_kind text by_val s_ret align bytes or_null bare NonNull same = bare NonNull tt same
no_kind text by_val s_ret align bytes or_null bare InReg same = bare InReg tt same
no_kind text by_val s_ret align bytes or_null bare Returned same = bare Returned tt same
no_kind text by_val s_ret align bytes or_null bare NoFree same = bare NoFree tt same
no_kind text by_val s_ret align bytes or_null bare ImmArg same = bare ImmArg tt same

-- a word that is none of the attributes that are one word
pub no_bare : (text : List ℕ) → (text ≡ codes "zeroext" → ⊥) → (text ≡ codes "signext" → ⊥) → (text ≡ codes "noalias" → ⊥) → (text ≡ codes "nocapture" → ⊥) → (text ≡ codes "readonly" → ⊥) → (text ≡ codes "readnone" → ⊥) → (text ≡ codes "writeonly" → ⊥) → (text ≡ codes "noundef" → ⊥) → (text ≡ codes "nonnull" → ⊥) → (text ≡ codes "inreg" → ⊥) → (text ≡ codes "returned" → ⊥) → (text ≡ codes "nofree" → ⊥) → (text ≡ codes "immarg" → ⊥) → (kind : AttributeKind) → IsBare kind → attribute_word kind ≡ text → ⊥
no_bare text a0 a1 a2 a3 a4 a5 a6 a7 a8 a9 a10 a11 a12 ZeroExt bare same = a0 (sym same)
no_bare text a0 a1 a2 a3 a4 a5 a6 a7 a8 a9 a10 a11 a12 SignExt bare same = a1 (sym same)
no_bare text a0 a1 a2 a3 a4 a5 a6 a7 a8 a9 a10 a11 a12 NoAlias bare same = a2 (sym same)
no_bare text a0 a1 a2 a3 a4 a5 a6 a7 a8 a9 a10 a11 a12 NoCapture bare same = a3 (sym same)
no_bare text a0 a1 a2 a3 a4 a5 a6 a7 a8 a9 a10 a11 a12 ReadOnly bare same = a4 (sym same)
no_bare text a0 a1 a2 a3 a4 a5 a6 a7 a8 a9 a10 a11 a12 ReadNone bare same = a5 (sym same)
no_bare text a0 a1 a2 a3 a4 a5 a6 a7 a8 a9 a10 a11 a12 WriteOnly bare same = a6 (sym same)
no_bare text a0 a1 a2 a3 a4 a5 a6 a7 a8 a9 a10 a11 a12 NoUndef bare same = a7 (sym same)
no_bare text a0 a1 a2 a3 a4 a5 a6 a7 a8 a9 a10 a11 a12 NonNull bare same = a8 (sym same)
no_bare text a0 a1 a2 a3 a4 a5 a6 a7 a8 a9 a10 a11 a12 InReg bare same = a9 (sym same)
no_bare text a0 a1 a2 a3 a4 a5 a6 a7 a8 a9 a10 a11 a12 Returned bare same = a10 (sym same)
no_bare text a0 a1 a2 a3 a4 a5 a6 a7 a8 a9 a10 a11 a12 NoFree bare same = a11 (sym same)
no_bare text a0 a1 a2 a3 a4 a5 a6 a7 a8 a9 a10 a11 a12 ImmArg bare same = a12 (sym same)
no_bare text a0 a1 a2 a3 a4 a5 a6 a7 a8 a9 a10 a11 a12 (ByVal t) bare same = absurd bare
no_bare text a0 a1 a2 a3 a4 a5 a6 a7 a8 a9 a10 a11 a12 (SRet t) bare same = absurd bare
no_bare text a0 a1 a2 a3 a4 a5 a6 a7 a8 a9 a10 a11 a12 (Align n) bare same = absurd bare
no_bare text a0 a1 a2 a3 a4 a5 a6 a7 a8 a9 a10 a11 a12 (Dereferenceable n) bare same = absurd bare
no_bare text a0 a1 a2 a3 a4 a5 a6 a7 a8 a9 a10 a11 a12 (DereferenceableOrNull n) bare same = absurd bare
