-- Modules of the same tokens are one.
use Rattle.std.proofs.Common.{◌≡◌, ℕ, false, List, [], ◌∷◌, ◌++◌, map, flat_map, refl, sym, ap, ap₂, ◌∙◌}
use Rattle.kern_types.specs.declared.class.PointerWidth.TheVariants.{P64}
use Rattle.ll_tokens.specs.Tokens.{Lexeme}
use Rattle.ll_tree.specs.declared.module.LlModule.{LlModule}
use Rattle.ll_tree.specs.declared.name.NameText.{NameText}
use Rattle.ll_tree.specs.Modules as modules
use Rattle.ll_parser.specs.GrammarItems.{ADeclaration, ADefinition, ANode, AStruct, ATarget, AVariable, IsModule, Item, Versions, bodies_of, declarations_of, functions_of, nodes_of, structs_of, targets_of, variables_of, versions_of}
use Rattle.ll_one_module.specs.Laws.{BlocksAreOne, ModulesAreOne}
use Rattle.ll_one_module.proofs.ItemsFound.{items-read, made_item, nonempty, read_items}
use Rattle.ll_one_module.proofs.NamesFound.{Numbering, renamed}
use Rattle.ll_one_module.proofs.Numbers.{first_table, second_table}
use Rattle.ll_one_module.proofs.OneFound.{one-found}
use Rattle.ll_one_module.proofs.Readers.{Reader, Reads, begins, bind, done, last, never, seq, skip}
use Rattle.ll_one_module.proofs.SameModule.{block-kept, module-kept}
use Rattle.ll_one_module.proofs.Same.{itself, kept, map-kept}
use Rattle.ll_one_module.proofs.BlocksFound.{blocks-read, made_block, read_blocks}
use Rattle.ll_one_module.proofs.HeadsFound.{block-closes}
use Rattle.inst_walk.specs.declared.body.Block.{Block}
use Rattle.ll_tree.specs.declared.inst.Inst.{Inst}
use Rattle.ll_tree.specs.Modules.{block_changed}
use Rattle.ll_parser.specs.GrammarFunctions.{blocks}
use Rattle.ll_parser.specs.Productions.{◌>>◌, mark}

map-append : {A B : Type 0} (f : A → B) (xs ys : List A) → map f (xs ++ ys) ≡ map f xs ++ map f ys
map-append f [] ys = refl
map-append f (x ∷ xs) ys = ap (λ zs. f x ∷ zs) (map-append f xs ys)

-- what is kept of items that are changed
flat-made : {X : Type 0} (made : Item → Item) (pick : Item → List X) (f : X → X) → ((i : Item) → map f (pick i) ≡ pick (made i)) → (list : List Item) → map f (flat_map pick list) ≡ flat_map pick (map made list)
flat-made made pick f one [] = refl
flat-made made pick f one (i ∷ list) = map-append f (pick i) (flat_map pick list) ∙ ap₂ (λ xs ys. xs ++ ys) (one i) (flat-made made pick f one list)

-- the module of some items
abbrev module_of : List NameText → List Item → LlModule
module_of names list = record {
  targets = flat_map targets_of list;
  structs = flat_map structs_of list;
  variables = flat_map variables_of list;
  declares = flat_map declarations_of list;
  functions = flat_map functions_of list;
  bodies = flat_map bodies_of list;
  ocl_version = flat_map versions_of list;
  nodes = flat_map nodes_of list;
  pointer = P64;
  names = names;
}

module _ (t : Numbering) where
  abbrev place : ℕ → ℕ
  place byte = byte

  targets-made : (i : Item) → map (modules.target_changed (renamed t) place) (targets_of i) ≡ targets_of (made_item t i)
  targets-made (ATarget x) = refl
  targets-made other = refl

  structs-made : (i : Item) → map (modules.struct_changed (renamed t) place) (structs_of i) ≡ structs_of (made_item t i)
  structs-made (AStruct x) = refl
  structs-made other = refl

  variables-made : (i : Item) → map (modules.variable_changed (renamed t) place) (variables_of i) ≡ variables_of (made_item t i)
  variables-made (AVariable x) = refl
  variables-made other = refl

  declares-made : (i : Item) → map (modules.head_changed (renamed t) place) (declarations_of i) ≡ declarations_of (made_item t i)
  declares-made (ADeclaration x) = refl
  declares-made other = refl

  functions-made : (i : Item) → map (modules.function_changed (renamed t) place) (functions_of i) ≡ functions_of (made_item t i)
  functions-made (ADefinition f b) = refl
  functions-made other = refl

  bodies-made : (i : Item) → map (modules.body_changed (renamed t) place) (bodies_of i) ≡ bodies_of (made_item t i)
  bodies-made (ADefinition f b) = refl
  bodies-made other = refl

  versions-made : (i : Item) → map (modules.node_ref_changed (renamed t) place) (versions_of i) ≡ versions_of (made_item t i)
  versions-made (Versions ns) = refl
  versions-made other = refl

  nodes-made : (i : Item) → map (modules.node_changed (renamed t) place) (nodes_of i) ≡ nodes_of (made_item t i)
  nodes-made (ANode n) = refl
  nodes-made other = refl

  module-made : (table : List NameText) (tokens : List Lexeme) (m : LlModule) → (is : IsModule tokens m) → modules.module_changed (renamed t) place table m ≡ module_of table (map (made_item t) is.items)
  module-made table tokens m is = λ i. record {
    targets = (ap (map (modules.target_changed (renamed t) place)) is.targets ∙ flat-made (made_item t) targets_of _ targets-made is.items) i;
    structs = (ap (map (modules.struct_changed (renamed t) place)) is.structs ∙ flat-made (made_item t) structs_of _ structs-made is.items) i;
    variables = (ap (map (modules.variable_changed (renamed t) place)) is.variables ∙ flat-made (made_item t) variables_of _ variables-made is.items) i;
    declares = (ap (map (modules.head_changed (renamed t) place)) is.declares ∙ flat-made (made_item t) declarations_of _ declares-made is.items) i;
    functions = (ap (map (modules.function_changed (renamed t) place)) is.functions ∙ flat-made (made_item t) functions_of _ functions-made is.items) i;
    bodies = (ap (map (modules.body_changed (renamed t) place)) is.bodies ∙ flat-made (made_item t) bodies_of _ bodies-made is.items) i;
    ocl_version = (ap (map (modules.node_ref_changed (renamed t) place)) is.ocl_version ∙ flat-made (made_item t) versions_of _ versions-made is.items) i;
    nodes = (ap (map (modules.node_changed (renamed t) place)) is.nodes ∙ flat-made (made_item t) nodes_of _ nodes-made is.items) i;
    pointer = is.pointer i;
    names = table;
  }

nothing-left : nonempty [] ≡ false
unfolding begins
nothing-left = refl

pub modules-one : ModulesAreOne
modules-one tokens a b is-a is-b =
    let ta : Numbering = first_table a.names b.names in
    let tb : Numbering = second_table b.names is-b.distinct in
    let found = one-found (read_items ta.look) tokens (map (made_item ta) is-a.items) (map (made_item tb) is-b.items) [] [] ((items-read ta is-a.items).reads tokens [] is-a.reads nothing-left) ((items-read tb is-b.items).reads tokens [] is-b.reads nothing-left) in
    module-made ta b.names tokens a is-a ∙ ap (module_of b.names) found.0 ∙ sym (module-made tb b.names tokens b is-b) ∙ module-kept b

abbrev Blocks : Type 0
Blocks = List (Block Inst ℕ) × List ℕ

closed_blocks : (NameText → ℕ) → ℕ → Reader Blocks
closed_blocks look next = bind (read_blocks look next) (λ found. skip (done found))

closed-read : (t : Numbering) (next : ℕ) (list : List (Block Inst ℕ)) (places : List ℕ) → Reads never (blocks t.names next list places >> mark 125) (closed_blocks t.look next) (let found : Blocks = (map (made_block t) list, places) in found)
unfolding closed_blocks
closed-read t next list places = seq _ (blocks-read t next list places) block-closes (last _ _)

pub blocks-one : BlocksAreOne
blocks-one a b once next list others places other_places tokens rest rest' d e =
    let ta : Numbering = first_table a b in
    let tb : Numbering = second_table b once in
    let found = one-found (closed_blocks tb.look next) tokens (map (made_block ta) list, places) (map (made_block tb) others, other_places) rest rest' ((closed-read ta next list places).reads tokens rest d refl) ((closed-read tb next others other_places).reads tokens rest' e refl) in
    (ap (λ (p : Blocks). p.0) found.0 ∙ map-kept (block_changed itself kept) block-kept others, ap (λ (p : Blocks). p.1) found.0, found.1)
