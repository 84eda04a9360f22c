-- The productions of attributes and attachments (LLVM 14, Parameter Attributes; Function Attributes; Metadata).
use Rattle.std.specs.Prelude.{◌≡◌, ℕ, ◌^◌, ◌<◌, List, [], ◌∷◌, drop, codes, Contains}
use Rattle.ll_tokens.specs.declared.kinds.TokenKind.TheVariants.{Attr, MdName, Mdn, Str, Word}
use Rattle.ll_tree.specs.declared.module.Attribute.{Attribute}
use Rattle.ll_tree.specs.declared.module.AttributeKind.{AttributeKind}
use Rattle.ll_tree.specs.declared.module.AttributeKind.TheVariants.{ZeroExt, SignExt, NoAlias, NoCapture, ReadOnly, ReadNone, WriteOnly, NoUndef, NonNull, InReg, Returned, NoFree, ImmArg, ByVal, SRet, Align, Dereferenceable, DereferenceableOrNull}
use Rattle.ll_tree.specs.declared.module.NodeRef.{NodeRef}
use Rattle.ll_tree.specs.declared.name.NameText.{NameText}
use Rattle.ll_tree.specs.declared.ty.LlType.{LlType}
use Rattle.ll_parser.specs.Productions.{Production, nothing, ◌>>◌, ◌or◌, maybe, token, mark, each, if_there}
use Rattle.ll_parser.specs.Spellings.{decimal_value}
use Rattle.ll_parser.specs.GrammarTypes.{ty, number}

-- the word of an attribute
abbrev pub attribute_word : AttributeKind → List ℕ
attribute_word ZeroExt = codes "zeroext"
attribute_word SignExt = codes "signext"
attribute_word NoAlias = codes "noalias"
attribute_word NoCapture = codes "nocapture"
attribute_word ReadOnly = codes "readonly"
attribute_word ReadNone = codes "readnone"
attribute_word WriteOnly = codes "writeonly"
attribute_word NoUndef = codes "noundef"
attribute_word NonNull = codes "nonnull"
attribute_word InReg = codes "inreg"
attribute_word Returned = codes "returned"
attribute_word NoFree = codes "nofree"
attribute_word ImmArg = codes "immarg"
attribute_word (ByVal t) = codes "byval"
attribute_word (SRet t) = codes "sret"
attribute_word (Align bytes) = codes "align"
attribute_word (Dereferenceable bytes) = codes "dereferenceable"
attribute_word (DereferenceableOrNull bytes) = codes "dereferenceable_or_null"

-- a word and its place
abbrev pub placed_word : List ℕ → ℕ → Production
placed_word text byte = token Word (λ lexeme. (lexeme.text ≡ text) × (lexeme.byte ≡ byte))

module _ (names : List NameText) where
  -- a type between `(`, 40, and `)`, 41
  abbrev enclosed_type : LlType → Production
  enclosed_type t = mark 40 >> ty names t >> mark 41

  -- what stands behind an attribute's word
  abbrev pub behind_word : AttributeKind → Production
  behind_word (ByVal t) = if_there enclosed_type t
  behind_word (SRet t) = if_there enclosed_type t
  behind_word (Align bytes) = number bytes
  behind_word (Dereferenceable bytes) = mark 40 >> number bytes >> mark 41
  behind_word (DereferenceableOrNull bytes) = mark 40 >> number bytes >> mark 41
  behind_word _ = nothing

  abbrev pub attribute : Attribute → Production
  attribute a = placed_word (attribute_word a.kind) a.byte >> behind_word a.kind

  -- attributes of which none is kept
  abbrev pub any_attributes : Production
  any_attributes tokens rest = (dropped : List Attribute) × each attribute dropped tokens rest

-- a metadata node by its number, behind its `!`
abbrev pub node_name : NodeRef → Production
node_name node = token Mdn (λ lexeme. (decimal_value (drop 1 lexeme.text) ≡ node.number) × (node.number < 2 ^ 31) × (lexeme.byte ≡ node.byte))

-- an attachment: its name, behind its `!`, and its node
abbrev pub attachment : List ℕ × NodeRef → Production
attachment a = token MdName (λ lexeme. drop 1 lexeme.text ≡ a.0) >> node_name a.1

-- attachments of an instruction, each behind a comma, 44; none is kept
abbrev pub any_attachments : Production
any_attachments tokens rest = (dropped : List (List ℕ × NodeRef)) × each (λ a. mark 44 >> attachment a) dropped tokens rest

-- the words of the attributes of functions
abbrev pub function_words : List (List ℕ)
function_words =
    codes "nounwind" ∷ codes "convergent" ∷ codes "norecurse" ∷ codes "noinline" ∷ codes "alwaysinline" ∷ codes "optnone" ∷
    codes "readnone" ∷ codes "readonly" ∷ codes "argmemonly" ∷ codes "willreturn" ∷ codes "mustprogress" ∷ codes "nofree" ∷
    codes "nosync" ∷ codes "uwtable" ∷ codes "speculatable" ∷ []

-- a text, and another behind `=`, 61, if it is there
abbrev pub text_attribute : Production
text_attribute = token Str (λ _. Unit {0}) >> maybe (mark 61 >> token Str (λ _. Unit {0}))

-- a group of attributes by its number, behind its `#`
abbrev pub attribute_group : Production
attribute_group = token Attr (λ lexeme. decimal_value (drop 1 lexeme.text) < 2 ^ 31)

-- an attribute of a function, which isn't kept
abbrev pub function_attribute : Production
function_attribute =
    attribute_group or text_attribute or token Word (λ lexeme. Contains function_words lexeme.text)

-- attributes of a function, of which none is kept
abbrev pub any_function_attributes : Production
any_function_attributes tokens rest = (count : List (Unit {0})) × each (λ _. function_attribute) count tokens rest
