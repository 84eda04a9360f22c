-- Modules, as they are read: item by item, up to the end of the tokens (LLVM 14, Module Structure).
use Rattle.std.specs.Prelude.{◌≡◌, List, [], ◌∷◌, ◌++◌, flat_map, map}
use Rattle.kern_types.specs.declared.class.PointerWidth.TheVariants.{P64}
use Rattle.ll_tokens.specs.Tokens.{Lexeme}
use Rattle.ll_tree.specs.declared.module.LlModule.{LlModule}
use Rattle.ll_tree.specs.declared.name.NameText.{NameText}
use Rattle.ll_parser.specs.GrammarItems.{IsModule, Item, bodies_of, declarations_of, functions_of, nodes_of, structs_of, targets_of, variables_of, versions_of}
use Rattle.ll_parser.specs.Productions.{Production, each}
use Rattle.ll_operands.specs.Parts.{Part, nothing_part}
use Rattle.ll_bodies.specs.BodyJoins.{until}
use Rattle.ll_items.specs.declared.small_items.SmallItem.{SmallItem}
use Rattle.ll_items.specs.declared.small_items.SmallItem.TheVariants as small
use Rattle.ll_modules.specs.declared.collected.Collected.{Collected}
use Rattle.ll_modules.specs.declared.items.ModuleItem.{ModuleItem}
use Rattle.ll_modules.specs.declared.items.ModuleItem.TheVariants.{Small, Declaration, Definition}
use Rattle.ll_modules.specs.ModuleItems.{grammar_item, item_here, module_item_part}

-- no tokens are left
abbrev pub ended : Production
ended tokens rest = tokens ≡ []

-- items up to the end
abbrev pub items_part : Part
items_part = until ended module_item_part nothing_part

-- nothing is kept yet
abbrev pub none_collected : Collected
none_collected = record { targets = []; structs = []; variables = []; declares = []; functions = []; bodies = []; ocl_version = []; nodes = [] }

-- what is kept with a further item
abbrev pub with_small : Collected → SmallItem → Collected
with_small c (small.Target t) = record c { targets = c.targets ++ t ∷ [] }
with_small c (small.Struct s) = record c { structs = c.structs ++ s ∷ [] }
with_small c (small.Variable v) = record c { variables = c.variables ++ v ∷ [] }
with_small c (small.Node n) = record c { nodes = c.nodes ++ n ∷ [] }
with_small c (small.Versions nodes) = record c { ocl_version = c.ocl_version ++ nodes }
with_small c small.Dropped = c

abbrev pub with_item : Collected → ModuleItem → Collected
with_item c (Small s) = with_small c s
with_item c (Declaration h) = record c { declares = c.declares ++ h ∷ [] }
with_item c (Definition d) = record c { functions = c.functions ++ d.function ∷ []; bodies = c.bodies ++ d.body ∷ [] }

-- what is kept of items, each list in the order of the text
pub record Collects (items : List Item) (c : Collected) : Type 0 where
  pub targets : c.targets ≡ flat_map targets_of items
  pub structs : c.structs ≡ flat_map structs_of items
  pub variables : c.variables ≡ flat_map variables_of items
  pub declares : c.declares ≡ flat_map declarations_of items
  pub functions : c.functions ≡ flat_map functions_of items
  pub bodies : c.bodies ≡ flat_map bodies_of items
  pub ocl_version : c.ocl_version ≡ flat_map versions_of items
  pub nodes : c.nodes ≡ flat_map nodes_of items

-- items one behind another, and what is kept of them
abbrev pub collected_items : List NameText → Collected → Production
collected_items names c tokens rest =
    (items : List ModuleItem) × Collects (map grammar_item items) c × each (item_here names) items tokens rest

-- the module that what is kept makes with a table of names
abbrev pub module_of : Collected → List NameText → LlModule
module_of c table = record {
  targets = c.targets;
  structs = c.structs;
  variables = c.variables;
  declares = c.declares;
  functions = c.functions;
  bodies = c.bodies;
  ocl_version = c.ocl_version;
  nodes = c.nodes;
  pointer = P64;
  names = table;
}

-- the tokens are those of no module
abbrev pub IsNoModule : List Lexeme → Type 0
IsNoModule tokens = (m : LlModule) → IsModule tokens m → ⊥
