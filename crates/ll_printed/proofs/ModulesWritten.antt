-- Modules are read as they are written, one list of items behind another.
use Rattle.std.proofs.Common.{◌≡◌, ℕ, Bool, true, false, List, [], ◌∷◌, ◌++◌, map, codes, refl}
use Rattle.std.specs.Prelude.{flat_map}
use Rattle.inst_walk.specs.declared.body.Body.{Body}
use Rattle.ll_tokens.specs.Tokens.{Lexeme}
use Rattle.ll_tree.specs.declared.inst.Inst.{Inst}
use Rattle.ll_tree.specs.declared.module.Function.{Function}
use Rattle.ll_tree.specs.declared.module.Head.{Head}
use Rattle.ll_tree.specs.declared.module.Node.{Node}
use Rattle.ll_tree.specs.declared.module.NodeRef.{NodeRef}
use Rattle.ll_tree.specs.declared.module.Struct.{Struct}
use Rattle.ll_tree.specs.declared.module.Target.{Target}
use Rattle.ll_tree.specs.declared.module.Variable.{Variable}
use Rattle.ll_tree.specs.declared.name.NameText.{NameText}
use Rattle.ll_parser.specs.GrammarAttributes.{node_name}
use Rattle.ll_parser.specs.GrammarItems.{ADeclaration, ADefinition, ANode, AStruct, ATarget, AVariable, Item, Versions, declaration, declarations_of, definition, item, named_nodes, node, nodes_of, struct_type, structs_of, target, targets_of, variable, variables_of, versions_of}
use Rattle.ll_parser.specs.Productions.{Production, ◌>>◌, each, each_behind_comma, listed}
use Rattle.ll_printed.specs.ModulePhrases.{declaration_line, function_phrase, node_line, node_ref_phrase, struct_line, target_line, variable_line, version_line}
use Rattle.ll_phrases.specs.Phrases.{Phrase, ◌&◌, each_phrase}
use Rattle.ll_phrases.proofs.Written.{AllWritten, Written, bare_pair, pair, lines-written, nothing-closed, made-same}
use Rattle.ll_printed.proofs.AttributesWritten.{bare_node, node-written}
use Rattle.ll_printed.proofs.FunctionsWritten.{bare_function, function-written}
use Rattle.ll_printed.proofs.HeadsWritten.{bare_head, declaration-written}
use Rattle.ll_printed.proofs.ItemsWritten.{bare_metadata, bare_struct, bare_target, bare_variable, metadata-written, struct-written, target-written, variable-written, versions-written}

-- each of a list is derived from some tokens
abbrev pub AllDerived : {A : Type 0} → (A → Production) → List A → Type 0
AllDerived production [] = Unit {0}
AllDerived production (x ∷ xs) = ((tokens : List Lexeme) × (rest : List Lexeme) × production x tokens rest) × AllDerived production xs

derived-joined : {A : Type 0} (production : A → Production) (xs ys : List A) → AllDerived production xs → AllDerived production ys → AllDerived production (xs ++ ys)
derived-joined production [] ys all more = more
derived-joined production (x ∷ xs) ys (one, all) more = (one, derived-joined production xs ys all more)

-- what is written where it is derived is written for each of a list
pub all-written : {A : Type 0} (loose closed : Bool) (bare : A → A) (production : A → Production) (phrase : A → Phrase) → ((x : A) (tokens rest : List Lexeme) → production x tokens rest → Written loose closed bare production (phrase x) x)
    → (xs : List A) → AllDerived production xs → AllWritten loose closed bare production phrase xs
all-written loose closed bare production phrase one [] all = tt
all-written loose closed bare production phrase one (x ∷ xs) ((tokens, rest, is), all) = (one x tokens rest is, all-written loose closed bare production phrase one xs all)

lines-again : {A : Type 0} (bare : A → A) (production : A → Production) (phrase : A → Phrase) → ((x : A) (tokens rest : List Lexeme) → production x tokens rest → Written false true bare production (phrase x) x)
    → (xs : List A) → AllDerived production xs → Written false true (map bare) (each production) (each_phrase phrase xs) xs
lines-again bare production phrase one xs all = lines-written bare production phrase xs (all-written false true bare production phrase one xs all)

-- a function with its body
abbrev pub pairs_of : Item → List (Function × Body Inst ℕ)
pairs_of (ADefinition f b) = (f, b) ∷ []
pairs_of _ = []

-- the item of a version's nodes, where there are any
abbrev pub version_items : List NodeRef → List Item
version_items [] = []
version_items (n ∷ ns) = Versions (n ∷ ns) ∷ []

-- what a module has that places are in
abbrev pub Kept : Type 0
Kept = List Target × (List Struct × (List Variable × (List (Function × Body Inst ℕ) × (List Head × (List NodeRef × List Node)))))

abbrev pub bare_kept : Kept → Kept
bare_kept = bare_pair (map bare_target) (bare_pair (map bare_struct) (bare_pair (map bare_variable) (bare_pair (map bare_function) (bare_pair (map bare_head) (bare_pair (map bare_node) (map bare_metadata))))))

abbrev pub kept_of : List Item → Kept
kept_of is = (flat_map targets_of is, (flat_map structs_of is, (flat_map variables_of is, (flat_map pairs_of is, (flat_map declarations_of is, (flat_map versions_of is, flat_map nodes_of is))))))

module _ (names : List NameText) where
  abbrev pub defined : Function × Body Inst ℕ → Production
  defined p = definition names p.0 p.1

  -- what a list of items is derived from, for what is kept of each
  kept-derived : {A : Type 0} (f : Item → List A) (production : A → Production) → ((i : Item) (tokens rest : List Lexeme) → item names i tokens rest → AllDerived production (f i)) → (is : List Item) (tokens rest : List Lexeme) → each (item names) is tokens rest
      → AllDerived production (flat_map f is)
  unfolding ◌>>◌
  kept-derived f production one [] tokens rest none = tt
  kept-derived f production one (i ∷ is) tokens rest (m, first, others) = derived-joined production (f i) (flat_map f is) (one i tokens m first) (kept-derived f production one is m rest others)

  target-kept : (i : Item) (tokens rest : List Lexeme) → item names i tokens rest → AllDerived target (targets_of i)
  target-kept (ATarget t) tokens rest d = ((tokens, rest, d), tt)
  target-kept _ tokens rest d = tt

  struct-kept : (i : Item) (tokens rest : List Lexeme) → item names i tokens rest → AllDerived (struct_type names) (structs_of i)
  struct-kept (AStruct s) tokens rest d = ((tokens, rest, d), tt)
  struct-kept _ tokens rest d = tt

  variable-kept : (i : Item) (tokens rest : List Lexeme) → item names i tokens rest → AllDerived (variable names) (variables_of i)
  variable-kept (AVariable v) tokens rest d = ((tokens, rest, d), tt)
  variable-kept _ tokens rest d = tt

  pair-kept : (i : Item) (tokens rest : List Lexeme) → item names i tokens rest → AllDerived defined (pairs_of i)
  pair-kept (ADefinition f b) tokens rest d = ((tokens, rest, d), tt)
  pair-kept _ tokens rest d = tt

  declaration-kept : (i : Item) (tokens rest : List Lexeme) → item names i tokens rest → AllDerived (declaration names) (declarations_of i)
  declaration-kept (ADeclaration h) tokens rest d = ((tokens, rest, d), tt)
  declaration-kept _ tokens rest d = tt

  metadata-kept : (i : Item) (tokens rest : List Lexeme) → item names i tokens rest → AllDerived (node names) (nodes_of i)
  metadata-kept (ANode n) tokens rest d = ((tokens, rest, d), tt)
  metadata-kept _ tokens rest d = tt

  behind-derived : (ns : List NodeRef) (tokens rest : List Lexeme) → each_behind_comma node_name ns tokens rest → AllDerived node_name ns
  unfolding ◌>>◌
  behind-derived [] tokens rest d = tt
  behind-derived (n ∷ ns) tokens rest (k, comma, (m, one, more)) = ((k, m, one), behind-derived ns m rest more)

  nodes-derived : (ns : List NodeRef) (tokens rest : List Lexeme) → listed node_name ns tokens rest → AllDerived node_name ns
  unfolding ◌>>◌
  nodes-derived [] tokens rest d = tt
  nodes-derived (n ∷ ns) tokens rest (m, one, more) = ((tokens, m, one), behind-derived ns m rest more)

  version-kept : (i : Item) (tokens rest : List Lexeme) → item names i tokens rest → AllDerived node_name (versions_of i)
  unfolding ◌>>◌
  version-kept (Versions nodes) tokens rest (a, name, (b, equal, (c, bang, (d, opens, (e, ns, closes))))) = nodes-derived nodes d e ns
  version-kept _ tokens rest d = tt

  -- the lines of a version's nodes are one item, or none
  abbrev pub version_production : List NodeRef → Production
  version_production ns = each (item names) (version_items ns)

  versions-of : (ns : List NodeRef) → AllDerived node_name ns → Written false true (map bare_node) version_production (version_line ns) ns
  unfolding ◌>>◌
  versions-of [] all = nothing-closed (map bare_node) version_production [] (λ ts rs is. is)
  versions-of (n ∷ ns) all =
      made-same (λ z. z) (λ z. z) (λ z. refl) (λ z same ts rs d. one-item n ns z same ts rs d) (versions-written n ns (all-written false false bare_node node_name node_ref_phrase node-written (n ∷ ns) all))
    where
      one-item : (m : NodeRef) (ms found : List NodeRef) → map bare_node found ≡ map bare_node (m ∷ ms) → (ts rs : List Lexeme) → named_nodes (codes "opencl.ocl.version") found ts rs → version_production found ts rs
      one-item m ms [] same ts rs d = absurd cc
      one-item m ms (x ∷ xs) same ts rs d = (rs, d, refl)

  abbrev pub kept_production : Kept → Production
  kept_production z =
      each target z.0 >> (each (struct_type names) z.1.0 >> (each (variable names) z.1.1.0 >> (each defined z.1.1.1.0 >> (each (declaration names) z.1.1.1.1.0 >> (version_production z.1.1.1.1.1.0 >> each (node names) z.1.1.1.1.1.1)))))

  abbrev pub kept_phrase : Kept → Phrase
  kept_phrase z =
      each_phrase target_line z.0 & each_phrase (struct_line names) z.1.0 & each_phrase (variable_line names) z.1.1.0 & each_phrase (function_phrase names) z.1.1.1.0 &
      each_phrase (declaration_line names) z.1.1.1.1.0 & version_line z.1.1.1.1.1.0 & each_phrase (node_line names) z.1.1.1.1.1.1

  pub kept-written : (is : List Item) (tokens rest : List Lexeme) → each (item names) is tokens rest → Written false true bare_kept kept_production (kept_phrase (kept_of is)) (kept_of is)
  kept-written is tokens rest d =
      pair (lines-again bare_target target target_line (λ t ts rs e. target-written t) (flat_map targets_of is) (kept-derived targets_of target target-kept is tokens rest d))
      (pair (lines-again bare_struct (struct_type names) (struct_line names) (struct-written names) (flat_map structs_of is) (kept-derived structs_of (struct_type names) struct-kept is tokens rest d))
      (pair (lines-again bare_variable (variable names) (variable_line names) (variable-written names) (flat_map variables_of is) (kept-derived variables_of (variable names) variable-kept is tokens rest d))
      (pair (lines-again bare_function defined (function_phrase names) (λ p. function-written names p.0 p.1) (flat_map pairs_of is) (kept-derived pairs_of defined pair-kept is tokens rest d))
      (pair (lines-again bare_head (declaration names) (declaration_line names) (declaration-written names) (flat_map declarations_of is) (kept-derived declarations_of (declaration names) declaration-kept is tokens rest d))
      (pair (versions-of (flat_map versions_of is) (kept-derived versions_of node_name version-kept is tokens rest d))
      (lines-again bare_metadata (node names) (node_line names) (metadata-written names) (flat_map nodes_of is) (kept-derived nodes_of (node names) metadata-kept is tokens rest d)) refl) refl) refl) refl) refl) refl
