-- The parts of which the items of a module consist, one behind another: where and by which rule tokens are refused that are to
-- begin with one (LLVM 14, Module Structure).
use Rattle.std.specs.Prelude.{◌≡◌, ℕ, ◌++◌, List, [], ◌∷◌, All, codes}
use Rattle.ll_tokens.specs.declared.kinds.TokenKind.{TokenKind}
use Rattle.ll_tokens.specs.declared.kinds.TokenKind.TheVariants.{Bang, Local as LocalToken, MdName, Mdn, MdStr}
use Rattle.ll_tokens.specs.Tokens.{Lexeme}
use Rattle.ll_tree.specs.declared.module.NodePart.{NodePart}
use Rattle.ll_tree.specs.declared.module.NodeRef.{NodeRef}
use Rattle.ll_tree.specs.declared.module.Struct.{Struct}
use Rattle.ll_tree.specs.declared.name.NameKind.TheVariants.{Struct as StructName}
use Rattle.ll_tree.specs.declared.name.NameText.{NameText}
use Rattle.ll_parser.specs.declared.refusal.ReadError.TheVariants.{Refused}
use Rattle.ll_parser.specs.declared.refusal.Refusal.{Refusal}
use Rattle.ll_parser.specs.GrammarAttributes.{attribute_group, node_name}
use Rattle.ll_parser.specs.GrammarItems.{any_text, is_no_brace, node_part, target_word}
use Rattle.ll_parser.specs.GrammarTypes.{type_name}
use Rattle.ll_parser.specs.NameReading.{NameFails, any_of}
use Rattle.ll_parser.specs.Productions.{Production, ◌>>◌, each_behind_comma, listed, mark, word}
use Rattle.ll_parser.specs.Spaces.{IsUnexpected}
use Rattle.ll_types.specs.TypeParts.{ty_here}
use Rattle.ll_attributes.specs.Attachments.{IsNoNode}
use Rattle.ll_attributes.specs.FunctionAttributes.{IsNoGroup}
use Rattle.ll_attributes.specs.Lists.{maybe_here}
use Rattle.ll_operands.specs.Parts.{Part, any, either, mark_part, one_word, repeated, ◌then◌, type_part, typed_part, word_part}

-- a production that breaks rule 3 at the first token where it isn't there
abbrev pub sole : Production → Part
sole production = record { begins = production; stops = IsUnexpected production }

-- a production of which there is one before any tokens
abbrev pub free : Production → Part
free production = record { begins = production; stops = λ tokens refusal. ⊥ }

abbrev pub kind_part : TokenKind → Part
kind_part kind = sole (any_of kind)

abbrev pub text_part : Part
text_part = sole any_text

abbrev pub type_name_part : Part
type_name_part = record { begins = any type_name; stops = λ tokens refusal. NameFails LocalToken StructName tokens (Refused refusal) }

abbrev pub node_name_part : Part
node_name_part = record { begins = λ tokens rest. (n : NodeRef) × node_name n tokens rest; stops = IsNoNode }

abbrev pub group_name_part : Part
group_name_part = record { begins = attribute_group; stops = IsNoGroup }

-- items with commas, 44, between them, one at least
abbrev pub some_part : Part → Part
some_part item = item then repeated (mark 44) (mark_part 44 then item)

-- items with commas between them, and the `}`, 125, behind them
abbrev pub braced_part : Part → Part
braced_part item = either (mark 125) (mark_part 125) (some_part item then mark_part 125)

-- the same with what the items stand for
abbrev pub some_listed : {A : Type 0} → (A → Production) → List A → Production
some_listed item [] tokens rest = ⊥
some_listed item (x ∷ xs) tokens rest = (item x >> each_behind_comma item xs) tokens rest

abbrev pub braced : {A : Type 0} → (A → Production) → List A → Production
braced item xs = listed item xs >> mark 125

-- a part of a metadata node
abbrev pub metadata_part : Part
metadata_part = either (any_of Mdn) node_name_part (either (any_of MdStr) (kind_part MdStr) (either (word (codes "null")) (word_part (codes "null")) typed_part))

-- parts of a metadata node between braces, behind the `{`
abbrev pub braced_parts : List NameText → List NodePart → Production
braced_parts names = braced (node_part names)

abbrev pub some_parts : List NameText → List NodePart → Production
some_parts names = some_listed (node_part names)

-- `!` and `{`, 123
abbrev pub open_list : Production
open_list = any_of Bang >> mark 123

abbrev pub open_part : Part
open_part = kind_part Bang then mark_part 123

-- tokens that are no braces, behind which a brace stands or the end
abbrev pub StopsAtBrace : List Lexeme → Type 0
StopsAtBrace rest = (lexeme : Lexeme) (behind : List Lexeme) → rest ≡ lexeme ∷ behind → is_no_brace lexeme → ⊥

abbrev pub inside_group : Production
inside_group tokens rest = ((group : List Lexeme) × All is_no_brace group × (tokens ≡ group ++ rest)) × StopsAtBrace rest

-- 61 is `=`
abbrev pub target_item : Part
target_item = word_part (codes "target") then one_word target_word then mark_part 61 then text_part

abbrev pub struct_item : Part
struct_item = type_name_part then mark_part 61 then word_part (codes "type") then type_part

abbrev pub node_item : Part
node_item = node_name_part then mark_part 61 then free (maybe_here (word (codes "distinct"))) then open_part then braced_part metadata_part

abbrev pub named_item : Part
named_item = kind_part MdName then mark_part 61 then open_part then braced_part node_name_part

abbrev pub source_item : Part
source_item = word_part (codes "source_filename") then mark_part 61 then text_part

abbrev pub group_item : Part
group_item = word_part (codes "attributes") then group_name_part then mark_part 61 then mark_part 123 then free inside_group then mark_part 125

-- a struct type, behind which no further pointer begins
abbrev pub struct_here : List NameText → Struct → Production
struct_here names s = type_name names s.name >> mark 61 >> word (codes "type") >> ty_here names s.ty

-- an item behind a comma
abbrev pub next_part : List NameText → NodePart → Production
next_part names p = mark 44 >> node_part names p

abbrev pub next_node : NodeRef → Production
next_node n = mark 44 >> node_name n

abbrev pub NextStops : Part → List Lexeme → Refusal → Type 0
NextStops item tokens refusal = (behind : List Lexeme) × mark 44 tokens behind × item.stops behind refusal

-- a token that is no brace
abbrev pub no_brace : Production
no_brace tokens rest = (lexeme : Lexeme) × (tokens ≡ lexeme ∷ rest) × is_no_brace lexeme
