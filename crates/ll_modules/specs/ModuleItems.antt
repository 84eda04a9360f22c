-- The items of modules (LLVM 14, Module Structure).
use Rattle.std.specs.Prelude.{◌≡◌, ◌⊎◌, List, length, codes, None}
use Rattle.ll_tokens.specs.Tokens.{Lexeme}
use Rattle.ll_tree.specs.declared.name.NameText.{NameText}
use Rattle.ll_parser.specs.GrammarItems.{Item, ADeclaration, ADefinition, ANode, AStruct, ATarget, AVariable, Dropped, Versions}
use Rattle.ll_parser.specs.Productions.{Production, word}
use Rattle.ll_operands.specs.Parts.{Part, any, either}
use Rattle.ll_heads.specs.HeadParts.{declaration_part}
use Rattle.ll_heads.specs.Heads.{EndsHead, declaration_here}
use Rattle.ll_items.specs.declared.small_items.SmallItem.TheVariants as small
use Rattle.ll_items.specs.Starts.{EndsItem, SmallFails, item_of, small_here, start_of}
use Rattle.ll_modules.specs.declared.items.ModuleItem.{ModuleItem}
use Rattle.ll_modules.specs.declared.items.ModuleItem.TheVariants.{Small, Declaration, Definition}
use Rattle.ll_modules.specs.Definitions.{whole_definition, whole_definition_part}

-- an item, with all that belongs to it
abbrev pub item_here : List NameText → ModuleItem → Production
item_here names (Small s) = small_here names s
item_here names (Declaration h) = declaration_here names h
item_here names (Definition d) = whole_definition names d

-- the item of the grammar, and back
abbrev pub grammar_item : ModuleItem → Item
grammar_item (Small s) = item_of s
grammar_item (Declaration h) = ADeclaration h
grammar_item (Definition d) = ADefinition d.function d.body

abbrev pub module_item : Item → ModuleItem
module_item (ATarget t) = Small (small.Target t)
module_item (AStruct s) = Small (small.Struct s)
module_item (AVariable v) = Small (small.Variable v)
module_item (ADeclaration h) = Declaration h
module_item (ADefinition f b) = Definition (record { function = f; body = b })
module_item (Versions nodes) = Small (small.Versions nodes)
module_item (ANode n) = Small (small.Node n)
module_item Dropped = Small small.Dropped

-- no item goes on with the tokens
pub record EndsModuleItem (tokens : List Lexeme) : Type 0 where
  pub item : EndsItem tokens
  pub head : EndsHead tokens

-- an item that is no function, where rule 3 is broken at the first token if that begins none
abbrev pub small_part : Part
small_part = record {
  begins = any small_here;
  stops = λ tokens refusal. SmallFails tokens refusal ⊎ ((start_of tokens ≡ None) × (refusal ≡ record { rule = 3; left = length tokens }));
}

abbrev pub module_item_part : Part
module_item_part = either (word (codes "define")) whole_definition_part (either (word (codes "declare")) declaration_part small_part)
