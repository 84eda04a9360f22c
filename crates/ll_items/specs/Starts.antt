-- Items by their first tokens, but for functions (LLVM 14, Module Structure).
use Rattle.std.specs.Prelude.{◌≡◌, ℕ, if◌then◌else◌, List, [], ◌∷◌, codes, Option, None, Some}
use Rattle.std.specs.Str.{bytes_eq}
use Rattle.ll_tokens.specs.declared.kinds.TokenKind.{TokenKind}
use Rattle.ll_tokens.specs.declared.kinds.TokenKind.TheVariants as kind
use Rattle.ll_tokens.specs.Tokens.{Lexeme}
use Rattle.ll_tree.specs.declared.name.NameText.{NameText}
use Rattle.ll_parser.specs.declared.refusal.Refusal.{Refusal}
use Rattle.ll_parser.specs.GrammarItems.{Item, ADefinition, ADeclaration, ANode, AStruct, ATarget, AVariable, Dropped as DroppedItem, Versions as VersionsItem, item}
use Rattle.ll_parser.specs.Pointers.{NoPointer}
use Rattle.ll_parser.specs.Productions.{Production, mark}
use Rattle.ll_parser.specs.Reading.{EndsNowhere}
use Rattle.ll_operands.specs.Parts.{Part}
use Rattle.ll_items.specs.declared.small_items.SmallItem.{SmallItem}
use Rattle.ll_items.specs.declared.small_items.SmallItem.TheVariants as small
use Rattle.ll_items.specs.declared.starts.Start.{Start}
use Rattle.ll_items.specs.declared.starts.Start.TheVariants as start
use Rattle.ll_items.specs.ItemParts.{group_item, named_item, node_item, source_item, struct_here, struct_item, target_item}
use Rattle.ll_items.specs.VariableParts.{variable_here, variable_item}

-- the item that a word begins
abbrev pub word_start : List ℕ → Option Start
word_start text =
    if bytes_eq text (codes "target") then Some start.Target
    else (if bytes_eq text (codes "source_filename") then Some start.Source
    else (if bytes_eq text (codes "attributes") then Some start.Group else None))

-- the item that a token begins
abbrev pub token_start : TokenKind → List ℕ → Option Start
token_start kind.Word text = word_start text
token_start kind.Local text = Some start.Struct
token_start kind.Global text = Some start.Variable
token_start kind.Mdn text = Some start.Node
token_start kind.MdName text = Some start.Named
token_start _ text = None

abbrev pub start_of : List Lexeme → Option Start
start_of [] = None
start_of (first ∷ rest) = token_start first.kind first.text

-- what is to stand where an item begins
abbrev pub item_part : Start → Part
item_part start.Target = target_item
item_part start.Source = source_item
item_part start.Group = group_item
item_part start.Struct = struct_item
item_part start.Variable = variable_item
item_part start.Node = node_item
item_part start.Named = named_item

-- the item of the grammar
abbrev pub item_of : SmallItem → Item
item_of (small.Target t) = ATarget t
item_of (small.Struct s) = AStruct s
item_of (small.Variable v) = AVariable v
item_of (small.Node n) = ANode n
item_of (small.Versions nodes) = VersionsItem nodes
item_of small.Dropped = DroppedItem

-- an item, with all that belongs to it
abbrev pub small_here : List NameText → SmallItem → Production
small_here names (small.Struct s) = struct_here names s
small_here names (small.Variable v) = variable_here names v
small_here names i = item names (item_of i)

-- an item begins and is refused
abbrev pub SmallFails : List Lexeme → Refusal → Type 0
SmallFails tokens refusal = (s : Start) × (start_of tokens ≡ Some s) × (item_part s).stops tokens refusal

-- no item goes on with the tokens: neither a comma, 44, begins them nor a pointer
pub record EndsItem (tokens : List Lexeme) : Type 0 where
  pub no_comma : EndsNowhere (mark 44) tokens
  pub no_pointer : NoPointer tokens
