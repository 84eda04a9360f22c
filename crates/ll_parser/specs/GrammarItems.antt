-- The productions of items and modules (LLVM 14, Module Structure).
use Rattle.std.specs.Prelude.{◌≡◌, ℕ, ◌++◌, ◌⊎◌, Bool, true, false, if◌then◌else◌, List, [], ◌∷◌, All, map, flat_map, drop, codes, Option, None, Some, slice_get}
use Rattle.std.specs.Str.{bytes_eq}
use Rattle.kern_types.specs.declared.class.PointerWidth.TheVariants.{P64}
use Rattle.std.specs.Option.{option_to_list}
use Rattle.inst_walk.specs.declared.body.Body.{Body}
use Rattle.ll_tokens.specs.declared.kinds.TokenKind.TheVariants.{Bang, MdName, MdStr, Str}
use Rattle.ll_tokens.specs.Tokens.{Lexeme}
use Rattle.ll_tree.specs.declared.inst.Inst.{Inst}
use Rattle.ll_tree.specs.declared.module.Function.{Function}
use Rattle.ll_tree.specs.declared.module.Head.{Head}
use Rattle.ll_tree.specs.declared.module.Linkage.{Linkage}
use Rattle.ll_tree.specs.declared.module.Linkage.TheVariants.{External, Internal, Private}
use Rattle.ll_tree.specs.declared.module.LlModule.{LlModule}
use Rattle.ll_tree.specs.declared.module.Node.{Node}
use Rattle.ll_tree.specs.declared.module.NodePart.{NodePart}
use Rattle.ll_tree.specs.declared.module.NodePart.TheVariants as part
use Rattle.ll_tree.specs.declared.module.NodeRef.{NodeRef}
use Rattle.ll_tree.specs.declared.module.Param.{Param}
use Rattle.ll_tree.specs.declared.module.Struct.{Struct}
use Rattle.ll_tree.specs.declared.module.Target.{Target}
use Rattle.ll_tree.specs.declared.module.TargetKind.{TargetKind}
use Rattle.ll_tree.specs.declared.module.TargetKind.TheVariants.{DataLayout, Triple}
use Rattle.ll_tree.specs.declared.module.Variable.{Variable}
use Rattle.ll_tree.specs.declared.name.Name.{Name}
use Rattle.ll_tree.specs.declared.name.NameText.{NameText}
use Rattle.ll_parser.specs.Productions.{Production, nothing, ◌>>◌, ◌or◌, maybe, token, word, mark, each, listed, if_there}
use Rattle.ll_parser.specs.Spellings.{between_quotes}
use Rattle.ll_parser.specs.GrammarTypes.{ty, space, type_name}
use Rattle.ll_parser.specs.GrammarValues.{local, global, value, typed}
use Rattle.ll_parser.specs.GrammarAttributes.{attribute, attachment, placed_word, node_name, any_function_attributes, attribute_group}
use Rattle.ll_parser.specs.GrammarInsts.{align}
use Rattle.ll_parser.specs.GrammarFunctions.{blocks, next_after, IsNumbered}

abbrev pub target_word : TargetKind → List ℕ
target_word DataLayout = codes "datalayout"
target_word Triple = codes "triple"

-- a text that is kept, and one that isn't
abbrev pub text : List ℕ → Production
text bytes = token Str (λ lexeme. between_quotes lexeme.text ≡ bytes)

abbrev pub any_text : Production
any_text = token Str (λ _. Unit {0})

abbrev pub linkage : Linkage → Production
linkage External = nothing
linkage Internal = word (codes "internal")
linkage Private = word (codes "private")

abbrev pub unnamed : Production
unnamed = word (codes "unnamed_addr") or word (codes "local_unnamed_addr")

-- 61 is `=`
abbrev pub target : Target → Production
target t = placed_word (codes "target") t.byte >> word (target_word t.kind) >> mark 61 >> text t.text

module _ (names : List NameText) where
  abbrev pub struct_type : Struct → Production
  struct_type s = type_name names s.name >> mark 61 >> word (codes "type") >> ty names s.ty

  -- attachments of a variable, behind commas, 44; none is kept
  abbrev any_variable_attachments : Production
  any_variable_attachments tokens rest = (dropped : List (List ℕ × NodeRef)) × each (λ a. mark 44 >> attachment a) dropped tokens rest

  abbrev pub variable : Variable → Production
  variable v =
      global names v.name >> mark 61 >> linkage v.linkage >> maybe (word (codes "dso_local")) >> maybe unnamed >> space v.space >>
      (word (codes "global") or word (codes "constant")) >> ty names v.ty >> value names v.init v.ty >> align v.align >> any_variable_attachments

  abbrev pub convention : Bool → Production
  convention true = word (codes "spir_kernel")
  convention false = maybe (word (codes "spir_func"))

  -- a parameter whose name is written, and one whose name isn't
  abbrev pub written_param : Param → Production
  written_param p = ty names p.ty >> each (attribute names) p.attributes >> if_there (local names) p.name

  -- a function's head behind its first word, 40 and 41 being `(` and `)`
  abbrev pub head : (List Param → Production) → Head → Production
  head params h =
      linkage h.linkage >> maybe (word (codes "dso_local")) >> convention h.is_kernel >> each (attribute names) h.attributes >> ty names h.ty >>
      global names h.name >> mark 40 >> params h.params >> mark 41 >> maybe unnamed >> any_function_attributes

  abbrev pub declaration : Head → Production
  declaration h = placed_word (codes "declare") h.byte >> head (listed written_param) h

  -- the name of a defined function's parameter, which is the next number, at the place of the parameter's
  -- first token, where it is left out
  abbrev pub param_name : ℕ → ℕ → Option Name → Production
  param_name next byte None tokens rest = ⊥
  param_name next byte (Some name) tokens rest =
      local names name tokens rest ⊎ (IsNumbered names name.number next × (name.byte ≡ byte) × (tokens ≡ rest))

  abbrev pub defined_param : ℕ → Param → Production
  defined_param next p [] rest = ⊥
  defined_param next p (first ∷ tokens) rest =
      (ty names p.ty >> each (attribute names) p.attributes >> param_name next first.byte p.name) (first ∷ tokens) rest

  abbrev pub number_of : Param → List ℕ
  number_of p = map (λ (n : Name). n.number) (option_to_list p.name)

  abbrev pub defined_params_behind : ℕ → List Param → Production
  defined_params_behind next [] = nothing
  defined_params_behind next (p ∷ ps) =
      mark 44 >> defined_param next p >> defined_params_behind (next_after names (number_of p) next) ps

  abbrev pub defined_params : List Param → Production
  defined_params [] = nothing
  defined_params (p ∷ ps) = defined_param 0 p >> defined_params_behind (next_after names (number_of p) 0) ps

  -- the first attachment of a name
  abbrev pub first_named : List ℕ → List (List ℕ × NodeRef) → Option NodeRef
  first_named name [] = None
  first_named name (a ∷ attachments) = if bytes_eq a.0 name then Some a.1 else first_named name attachments

  -- what is kept of the attachments: the first of each of the three names
  pub record Keeps (attachments : List (List ℕ × NodeRef)) (f : Function) : Type 0 where
    pub arg_type : f.kernel_arg_type ≡ first_named (codes "kernel_arg_type") attachments
    pub required : f.reqd_work_group_size ≡ first_named (codes "reqd_work_group_size") attachments
    pub hint : f.work_group_size_hint ≡ first_named (codes "work_group_size_hint") attachments

  -- a function with its body, 123 and 125 being `{` and `}`; a block at least
  abbrev pub definition : Function → Body Inst ℕ → Production
  definition f b tokens rest =
      (attachments : List (List ℕ × NodeRef)) × Keeps attachments f ×
      (b.params ≡ flat_map number_of f.head.params) × (f.labels ≡ [] → ⊥) ×
      (placed_word (codes "define") f.head.byte >> head defined_params f.head >> each attachment attachments >> mark 123 >>
      blocks names (next_after names b.params 0) b.blocks f.labels >> mark 125) tokens rest

  abbrev pub node_part : NodePart → Production
  node_part (part.Node node) = node_name node
  node_part (part.Text bytes) = token MdStr (λ lexeme. between_quotes (drop 1 lexeme.text) ≡ bytes)
  node_part part.Null = word (codes "null")
  node_part (part.Value v) = typed names v

  -- a metadata node, behind its number
  abbrev pub node : Node → Production
  node n =
      node_name (record { number = n.number; byte = n.byte }) >> mark 61 >> maybe (word (codes "distinct")) >> token Bang (λ _. Unit {0}) >> mark 123 >>
      listed node_part n.parts >> mark 125

-- named metadata and its nodes
abbrev pub named_nodes : List ℕ → List NodeRef → Production
named_nodes name nodes =
    token MdName (λ lexeme. drop 1 lexeme.text ≡ name) >> mark 61 >> token Bang (λ _. Unit {0}) >> mark 123 >> listed node_name nodes >> mark 125

-- an item that isn't kept: the name of the source, a group of attributes, or named metadata of another name
abbrev pub is_no_brace : Lexeme → Type 0
is_no_brace lexeme = (lexeme.text ≡ 123 ∷ [] → ⊥) × (lexeme.text ≡ 125 ∷ [] → ⊥)

abbrev pub dropped_item : Production
dropped_item =
    (word (codes "source_filename") >> mark 61 >> any_text)
    or (word (codes "attributes") >> attribute_group >> mark 61 >> mark 123 >> (λ tokens rest. (group : List Lexeme) × All is_no_brace group × (tokens ≡ group ++ rest)) >> mark 125)
    or (λ tokens rest. (name : List ℕ) × (nodes : List NodeRef) × (name ≡ codes "opencl.ocl.version" → ⊥) × named_nodes name nodes tokens rest)

-- An item of a module, as far as it is kept
pub data Item : Type 0 where
  ATarget : Target → Item
  AStruct : Struct → Item
  AVariable : Variable → Item
  ADeclaration : Head → Item
  ADefinition : Function → Body Inst ℕ → Item
  Versions : List NodeRef → Item
  ANode : Node → Item
  Dropped : Item

abbrev pub item : List NameText → Item → Production
item names (ATarget t) = target t
item names (AStruct s) = struct_type names s
item names (AVariable v) = variable names v
item names (ADeclaration h) = declaration names h
item names (ADefinition f b) = definition names f b
item names (Versions nodes) = named_nodes (codes "opencl.ocl.version") nodes
item names (ANode n) = node names n
item names Dropped = dropped_item

abbrev pub targets_of : Item → List Target
targets_of (ATarget t) = t ∷ []
targets_of _ = []

abbrev pub structs_of : Item → List Struct
structs_of (AStruct s) = s ∷ []
structs_of _ = []

abbrev pub variables_of : Item → List Variable
variables_of (AVariable v) = v ∷ []
variables_of _ = []

abbrev pub declarations_of : Item → List Head
declarations_of (ADeclaration h) = h ∷ []
declarations_of _ = []

abbrev pub functions_of : Item → List Function
functions_of (ADefinition f b) = f ∷ []
functions_of _ = []

abbrev pub bodies_of : Item → List (Body Inst ℕ)
bodies_of (ADefinition f b) = b ∷ []
bodies_of _ = []

abbrev pub versions_of : Item → List NodeRef
versions_of (Versions nodes) = nodes
versions_of _ = []

abbrev pub nodes_of : Item → List Node
nodes_of (ANode n) = n ∷ []
nodes_of _ = []

-- the tokens are those of items, and the module has what is kept of these, each list in the order of the text.
-- Which numbers its table gives to names is left open, but for two numbers of one name
pub record IsModule (tokens : List Lexeme) (m : LlModule) : Type 0 where
  pub items : List Item
  pub reads : each (item m.names) items tokens []
  pub targets : m.targets ≡ flat_map targets_of items
  pub structs : m.structs ≡ flat_map structs_of items
  pub variables : m.variables ≡ flat_map variables_of items
  pub declares : m.declares ≡ flat_map declarations_of items
  pub functions : m.functions ≡ flat_map functions_of items
  pub bodies : m.bodies ≡ flat_map bodies_of items
  pub ocl_version : m.ocl_version ≡ flat_map versions_of items
  pub nodes : m.nodes ≡ flat_map nodes_of items
  pub pointer : m.pointer ≡ P64
  pub distinct : (i j : ℕ) (entry : NameText) → slice_get m.names i ≡ Some entry → slice_get m.names j ≡ Some entry → i ≡ j
