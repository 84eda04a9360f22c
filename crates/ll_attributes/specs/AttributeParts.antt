-- Attributes of parameters and results, as they are read: all that there are, each with all that belongs to it (LLVM 14,
-- Parameter Attributes).
use Rattle.std.specs.Prelude.{◌≡◌, List, Option, None, Some}
use Rattle.ll_tokens.specs.Tokens.{Lexeme}
use Rattle.ll_tree.specs.declared.module.Attribute.{Attribute}
use Rattle.ll_tree.specs.declared.module.AttributeKind.{AttributeKind}
use Rattle.ll_tree.specs.declared.module.AttributeKind.TheVariants.{ByVal, SRet, Align, Dereferenceable, DereferenceableOrNull}
use Rattle.ll_tree.specs.declared.name.NameText.{NameText}
use Rattle.ll_tree.specs.declared.ty.LlType.{LlType}
use Rattle.ll_parser.specs.GrammarAttributes.{attribute_word, behind_word, placed_word}
use Rattle.ll_parser.specs.Productions.{Production, ◌>>◌, word, mark}
use Rattle.ll_parser.specs.Reading.{EndsNowhere}
use Rattle.ll_types.specs.TypeParts.{ty_here}
use Rattle.ll_attributes.specs.Lists.{AllOf, some_of}

-- no attribute's word begins the tokens
abbrev pub NoAttribute : List Lexeme → Type 0
NoAttribute tokens = (kind : AttributeKind) → EndsNowhere (word (attribute_word kind)) tokens

-- nothing stands behind the attribute's word
abbrev pub IsBare : AttributeKind → Type 0
IsBare (ByVal t) = ⊥
IsBare (SRet t) = ⊥
IsBare (Align bytes) = ⊥
IsBare (Dereferenceable bytes) = ⊥
IsBare (DereferenceableOrNull bytes) = ⊥
IsBare _ = Unit {0}

-- a type between `(`, 40, and `)`, 41
abbrev pub in_brackets : List NameText → LlType → Production
in_brackets names t = mark 40 >> ty_here names t >> mark 41

-- the same where a `(` begins the tokens
abbrev pub brackets_here : List NameText → Option LlType → Production
brackets_here names None tokens rest = (tokens ≡ rest) × EndsNowhere (mark 40) tokens
brackets_here names (Some t) tokens rest = in_brackets names t tokens rest

-- what stands behind an attribute's word
abbrev pub behind_word_here : List NameText → AttributeKind → Production
behind_word_here names (ByVal t) = brackets_here names t
behind_word_here names (SRet t) = brackets_here names t
behind_word_here names kind = behind_word names kind

abbrev pub attribute_here : List NameText → Attribute → Production
attribute_here names a = placed_word (attribute_word a.kind) a.byte >> behind_word_here names a.kind

-- attributes, behind which no further one begins
abbrev pub attributes_here : List NameText → List Attribute → Production
attributes_here names attributes = AllOf (attribute_here names) NoAttribute attributes

-- some attributes, whatever the table of names
abbrev pub some_attributes : Production
some_attributes tokens rest = (names : List NameText) × some_of (attribute_here names) tokens rest
