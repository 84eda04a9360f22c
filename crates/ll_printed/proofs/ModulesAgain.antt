-- The module that the tokens of a module's phrase are.
use Rattle.ll_phrases.proofs.PhrasesRead.{texts-read}
use Rattle.std.proofs.Common.{◌≡◌, ℕ, true, false, List, [], ◌∷◌, ◌++◌, map, refl, sym, ◌∙◌, ap, ap₂, append-nil, append_assoc}
use Rattle.std.specs.Prelude.{flat_map}
use Rattle.std.specs.List.{zip}
use Rattle.inst_walk.specs.declared.body.Body.{Body}
use Rattle.ll_tokens.specs.Tokens.{Lexeme, IsTokens}
use Rattle.ll_tree.specs.declared.inst.Inst.{Inst}
use Rattle.ll_tree.specs.declared.module.Function.{Function}
use Rattle.ll_tree.specs.declared.module.LlModule.{LlModule}
use Rattle.ll_tree.specs.declared.module.NodeRef.{NodeRef}
use Rattle.ll_tree.specs.declared.name.NameText.{NameText}
use Rattle.ll_tree.specs.Modules.{IsSame, body_changed, function_changed, without_places}
use Rattle.ll_tree.specs.Names.{name_unplaced}
use Rattle.ll_parser.specs.GrammarItems.{ADeclaration, ADefinition, ANode, AStruct, ATarget, AVariable, Dropped, IsModule, Item, Versions, bodies_of, declarations_of, functions_of, item, nodes_of, structs_of, targets_of, variables_of, versions_of}
use Rattle.ll_parser.specs.Productions.{◌>>◌, each}
use Rattle.ll_printed.specs.ModulePhrases.{declaration_line, function_phrase, module_phrase, node_line, struct_line, target_line, variable_line, version_line}
use Rattle.ll_phrases.specs.Phrases.{◌&◌, each_phrase, spelled, written}
use Rattle.ll_phrases.proofs.Written.{Written, same-phrase, laid-out}
use Rattle.ll_printed.proofs.AttributesWritten.{bare_node}
use Rattle.ll_printed.proofs.FunctionsWritten.{bare_function, each-joined}
use Rattle.ll_printed.proofs.HeadsWritten.{bare_head}
use Rattle.ll_printed.proofs.ItemsWritten.{bare_metadata, bare_struct, bare_target, bare_variable}
use Rattle.ll_printed.proofs.ModulesWritten.{Kept, bare_kept, kept-written, kept_of, kept_phrase, kept_production, pairs_of, version_items}
use Rattle.ll_printed.proofs.OpParts.{no_place}

abbrev function_item : Function × Body Inst ℕ → Item
function_item p = ADefinition p.0 p.1

-- the items of what is kept, one kind behind another
abbrev items_of : Kept → List Item
items_of z =
    map ATarget z.0 ++ (map AStruct z.1.0 ++ (map AVariable z.1.1.0 ++ (map function_item z.1.1.1.0 ++ (map ADeclaration z.1.1.1.1.0 ++ (version_items z.1.1.1.1.1.0 ++ map ANode z.1.1.1.1.1.1)))))

each-mapped : {A : Type 0} (names : List NameText) (make : A → Item) (xs : List A) (tokens rest : List Lexeme) → each (λ x. item names (make x)) xs tokens rest → each (item names) (map make xs) tokens rest
unfolding ◌>>◌
each-mapped names make [] tokens rest d = d
each-mapped names make (x ∷ xs) tokens rest (m, one, more) = (m, one, each-mapped names make xs m rest more)

items-again : (names : List NameText) (z : Kept) (tokens rest : List Lexeme) → kept_production names z tokens rest → each (item names) (items_of z) tokens rest
unfolding ◌>>◌
items-again names z tokens rest (a, ts, (b, ss, (c, vs, (d, ps, (e, hs, (f, ns, ms)))))) =
    each-joined (item names) _ _ tokens a rest (each-mapped names ATarget z.0 tokens a ts)
    (each-joined (item names) _ _ a b rest (each-mapped names AStruct z.1.0 a b ss)
    (each-joined (item names) _ _ b c rest (each-mapped names AVariable z.1.1.0 b c vs)
    (each-joined (item names) _ _ c d rest (each-mapped names function_item z.1.1.1.0 c d ps)
    (each-joined (item names) _ _ d e rest (each-mapped names ADeclaration z.1.1.1.1.0 d e hs)
    (each-joined (item names) _ _ e f rest ns (each-mapped names ANode z.1.1.1.1.1.1 f rest ms))))))

flat-joined : {X : Type 0} (f : Item → List X) (xs ys : List Item) → flat_map f (xs ++ ys) ≡ flat_map f xs ++ flat_map f ys
flat-joined f [] ys = refl
flat-joined f (x ∷ xs) ys = ap (λ t. f x ++ t) (flat-joined f xs ys) ∙ sym (append_assoc (f x) (flat_map f xs) (flat_map f ys))

-- what is kept of items of another kind, and of items of its own
none-kept : {A X : Type 0} (f : Item → List X) (make : A → Item) → ((x : A) → f (make x) ≡ []) → (xs : List A) → flat_map f (map make xs) ≡ []
none-kept f make none [] = refl
none-kept f make none (x ∷ xs) = ap₂ (λ a b. a ++ b) (none x) (none-kept f make none xs)

own-kept : {A X : Type 0} (f : Item → List X) (make : A → Item) (part : A → X) → ((x : A) → f (make x) ≡ part x ∷ []) → (xs : List A) → flat_map f (map make xs) ≡ map part xs
own-kept f make part own [] = refl
own-kept f make part own (x ∷ xs) = ap₂ (λ a b. a ++ b) (own x) (own-kept f make part own xs)

map-same : {A : Type 0} (xs : List A) → map (λ (x : A). x) xs ≡ xs
map-same [] = refl
map-same (x ∷ xs) = ap (λ ys. x ∷ ys) (map-same xs)

-- what is kept of seven lists of items
seven : {X : Type 0} (f : Item → List X) (a b c d e g h : List Item) (r s t u v w x : List X) → flat_map f a ≡ r → flat_map f b ≡ s → flat_map f c ≡ t → flat_map f d ≡ u → flat_map f e ≡ v → flat_map f g ≡ w → flat_map f h ≡ x
    → flat_map f (a ++ (b ++ (c ++ (d ++ (e ++ (g ++ h)))))) ≡ r ++ (s ++ (t ++ (u ++ (v ++ (w ++ x)))))
seven f a b c d e g h r s t u v w x is-a is-b is-c is-d is-e is-g is-h =
    one a _ r _ is-a (one b _ s _ is-b (one c _ t _ is-c (one d _ u _ is-d (one e _ v _ is-e (one g h w x is-g is-h)))))
  where
    one : (i j : List Item) (k l : List _) → flat_map f i ≡ k → flat_map f j ≡ l → flat_map f (i ++ j) ≡ k ++ l
    one i j k l p q = flat-joined f i j ∙ ap₂ (λ y z. y ++ z) p q

no-versions : {X : Type 0} (f : Item → List X) → ((ns : List NodeRef) → f (Versions ns) ≡ []) → (ns : List NodeRef) → flat_map f (version_items ns) ≡ []
no-versions f none [] = refl
no-versions f none (n ∷ ns) = ap (λ t. t ++ []) (none (n ∷ ns))

own-versions : (ns : List NodeRef) → flat_map versions_of (version_items ns) ≡ ns
own-versions [] = refl
own-versions (n ∷ ns) = append-nil (n ∷ ns)

module _ (z : Kept) where
  kept-seven : {X : Type 0} (f : Item → List X) (r s t u v w x : List X) → flat_map f (map ATarget z.0) ≡ r → flat_map f (map AStruct z.1.0) ≡ s → flat_map f (map AVariable z.1.1.0) ≡ t → flat_map f (map function_item z.1.1.1.0) ≡ u
      → flat_map f (map ADeclaration z.1.1.1.1.0) ≡ v → flat_map f (version_items z.1.1.1.1.1.0) ≡ w → flat_map f (map ANode z.1.1.1.1.1.1) ≡ x → flat_map f (items_of z) ≡ r ++ (s ++ (t ++ (u ++ (v ++ (w ++ x)))))
  kept-seven f r s t u v w x = seven f (map ATarget z.0) (map AStruct z.1.0) (map AVariable z.1.1.0) (map function_item z.1.1.1.0) (map ADeclaration z.1.1.1.1.0) (version_items z.1.1.1.1.1.0) (map ANode z.1.1.1.1.1.1) r s t u v w x

  targets-again : flat_map targets_of (items_of z) ≡ z.0
  targets-again =
      kept-seven targets_of z.0 [] [] [] [] [] [] (own-kept targets_of ATarget (λ x. x) (λ x. refl) z.0 ∙ map-same z.0) (none-kept targets_of AStruct (λ x. refl) z.1.0) (none-kept targets_of AVariable (λ x. refl) z.1.1.0)
      (none-kept targets_of function_item (λ x. refl) z.1.1.1.0) (none-kept targets_of ADeclaration (λ x. refl) z.1.1.1.1.0) (no-versions targets_of (λ ns. refl) z.1.1.1.1.1.0) (none-kept targets_of ANode (λ x. refl) z.1.1.1.1.1.1)
      ∙ append-nil z.0

  structs-again : flat_map structs_of (items_of z) ≡ z.1.0
  structs-again =
      kept-seven structs_of [] z.1.0 [] [] [] [] [] (none-kept structs_of ATarget (λ x. refl) z.0) (own-kept structs_of AStruct (λ x. x) (λ x. refl) z.1.0 ∙ map-same z.1.0) (none-kept structs_of AVariable (λ x. refl) z.1.1.0)
      (none-kept structs_of function_item (λ x. refl) z.1.1.1.0) (none-kept structs_of ADeclaration (λ x. refl) z.1.1.1.1.0) (no-versions structs_of (λ ns. refl) z.1.1.1.1.1.0) (none-kept structs_of ANode (λ x. refl) z.1.1.1.1.1.1)
      ∙ append-nil z.1.0

  variables-again : flat_map variables_of (items_of z) ≡ z.1.1.0
  variables-again =
      kept-seven variables_of [] [] z.1.1.0 [] [] [] [] (none-kept variables_of ATarget (λ x. refl) z.0) (none-kept variables_of AStruct (λ x. refl) z.1.0) (own-kept variables_of AVariable (λ x. x) (λ x. refl) z.1.1.0 ∙ map-same z.1.1.0)
      (none-kept variables_of function_item (λ x. refl) z.1.1.1.0) (none-kept variables_of ADeclaration (λ x. refl) z.1.1.1.1.0) (no-versions variables_of (λ ns. refl) z.1.1.1.1.1.0) (none-kept variables_of ANode (λ x. refl) z.1.1.1.1.1.1)
      ∙ append-nil z.1.1.0

  functions-again : flat_map functions_of (items_of z) ≡ map (λ p. p.0) z.1.1.1.0
  functions-again =
      kept-seven functions_of [] [] [] (map (λ p. p.0) z.1.1.1.0) [] [] [] (none-kept functions_of ATarget (λ x. refl) z.0) (none-kept functions_of AStruct (λ x. refl) z.1.0) (none-kept functions_of AVariable (λ x. refl) z.1.1.0)
      (own-kept functions_of function_item (λ p. p.0) (λ x. refl) z.1.1.1.0) (none-kept functions_of ADeclaration (λ x. refl) z.1.1.1.1.0) (no-versions functions_of (λ ns. refl) z.1.1.1.1.1.0) (none-kept functions_of ANode (λ x. refl) z.1.1.1.1.1.1)
      ∙ append-nil (map (λ p. p.0) z.1.1.1.0)

  bodies-again : flat_map bodies_of (items_of z) ≡ map (λ p. p.1) z.1.1.1.0
  bodies-again =
      kept-seven bodies_of [] [] [] (map (λ p. p.1) z.1.1.1.0) [] [] [] (none-kept bodies_of ATarget (λ x. refl) z.0) (none-kept bodies_of AStruct (λ x. refl) z.1.0) (none-kept bodies_of AVariable (λ x. refl) z.1.1.0)
      (own-kept bodies_of function_item (λ p. p.1) (λ x. refl) z.1.1.1.0) (none-kept bodies_of ADeclaration (λ x. refl) z.1.1.1.1.0) (no-versions bodies_of (λ ns. refl) z.1.1.1.1.1.0) (none-kept bodies_of ANode (λ x. refl) z.1.1.1.1.1.1)
      ∙ append-nil (map (λ p. p.1) z.1.1.1.0)

  declarations-again : flat_map declarations_of (items_of z) ≡ z.1.1.1.1.0
  declarations-again =
      kept-seven declarations_of [] [] [] [] z.1.1.1.1.0 [] [] (none-kept declarations_of ATarget (λ x. refl) z.0) (none-kept declarations_of AStruct (λ x. refl) z.1.0) (none-kept declarations_of AVariable (λ x. refl) z.1.1.0)
      (none-kept declarations_of function_item (λ x. refl) z.1.1.1.0) (own-kept declarations_of ADeclaration (λ x. x) (λ x. refl) z.1.1.1.1.0 ∙ map-same z.1.1.1.1.0) (no-versions declarations_of (λ ns. refl) z.1.1.1.1.1.0) (none-kept declarations_of ANode (λ x. refl) z.1.1.1.1.1.1)
      ∙ append-nil z.1.1.1.1.0

  versions-again : flat_map versions_of (items_of z) ≡ z.1.1.1.1.1.0
  versions-again =
      kept-seven versions_of [] [] [] [] [] z.1.1.1.1.1.0 [] (none-kept versions_of ATarget (λ x. refl) z.0) (none-kept versions_of AStruct (λ x. refl) z.1.0) (none-kept versions_of AVariable (λ x. refl) z.1.1.0)
      (none-kept versions_of function_item (λ x. refl) z.1.1.1.0) (none-kept versions_of ADeclaration (λ x. refl) z.1.1.1.1.0) (own-versions z.1.1.1.1.1.0) (none-kept versions_of ANode (λ x. refl) z.1.1.1.1.1.1)
      ∙ append-nil z.1.1.1.1.1.0

  nodes-again : flat_map nodes_of (items_of z) ≡ z.1.1.1.1.1.1
  nodes-again =
      kept-seven nodes_of [] [] [] [] [] [] z.1.1.1.1.1.1 (none-kept nodes_of ATarget (λ x. refl) z.0) (none-kept nodes_of AStruct (λ x. refl) z.1.0) (none-kept nodes_of AVariable (λ x. refl) z.1.1.0)
      (none-kept nodes_of function_item (λ x. refl) z.1.1.1.0) (none-kept nodes_of ADeclaration (λ x. refl) z.1.1.1.1.0) (no-versions nodes_of (λ ns. refl) z.1.1.1.1.1.0) (own-kept nodes_of ANode (λ x. x) (λ x. refl) z.1.1.1.1.1.1 ∙ map-same z.1.1.1.1.1.1)

-- functions and bodies, in pairs
pub zip-items : (is : List Item) → zip (flat_map functions_of is) (flat_map bodies_of is) ≡ flat_map pairs_of is
zip-items [] = refl
zip-items (ATarget t ∷ is) = zip-items is
zip-items (AStruct s ∷ is) = zip-items is
zip-items (AVariable v ∷ is) = zip-items is
zip-items (ADeclaration h ∷ is) = zip-items is
zip-items (ADefinition f b ∷ is) = ap (λ ps. (f, b) ∷ ps) (zip-items is)
zip-items (Versions ns ∷ is) = zip-items is
zip-items (ANode n ∷ is) = zip-items is
zip-items (Dropped ∷ is) = zip-items is

-- what is made of the functions, or of the bodies, of all items
halves : {A X : Type 0} (half : Item → List A) (make : A → X) (of : Function × Body Inst ℕ → X) → ((i : Item) → map make (half i) ≡ map of (pairs_of i)) → (is : List Item) → map make (flat_map half is) ≡ map of (flat_map pairs_of is)
halves half make of one [] = refl
halves half make of one (i ∷ is) = joined (half i) (flat_map half is) ∙ (ap₂ (λ a b. a ++ b) (one i) (halves half make of one is) ∙ sym (split (pairs_of i) (flat_map pairs_of is)))
  where
    joined : (xs ys : List _) → map make (xs ++ ys) ≡ map make xs ++ map make ys
    joined [] ys = refl
    joined (x ∷ xs) ys = ap (λ t. make x ∷ t) (joined xs ys)

    split : (xs ys : List _) → map of (xs ++ ys) ≡ map of xs ++ map of ys
    split [] ys = refl
    split (x ∷ xs) ys = ap (λ t. of x ∷ t) (split xs ys)

bare-functions : (i : Item) → map (function_changed name_unplaced no_place) (functions_of i) ≡ map (λ p. (bare_function p).0) (pairs_of i)
bare-functions (ADefinition f b) = refl
bare-functions _ = refl

bare-bodies : (i : Item) → map (body_changed name_unplaced no_place) (bodies_of i) ≡ map (λ p. (bare_function p).1) (pairs_of i)
bare-bodies (ADefinition f b) = refl
bare-bodies _ = refl

map-twice : {A B C : Type 0} (f : A → B) (g : B → C) (xs : List A) → map g (map f xs) ≡ map (λ x. g (f x)) xs
map-twice f g [] = refl
map-twice f g (x ∷ xs) = ap (λ t. g (f x) ∷ t) (map-twice f g xs)

-- the module of what is kept, and what it is without places
abbrev module_of : LlModule → Kept → LlModule
module_of m z = record {
  targets = z.0;
  structs = z.1.0;
  variables = z.1.1.0;
  declares = z.1.1.1.1.0;
  functions = map (λ p. p.0) z.1.1.1.0;
  bodies = map (λ p. p.1) z.1.1.1.0;
  ocl_version = z.1.1.1.1.1.0;
  nodes = z.1.1.1.1.1.1;
  pointer = m.pointer;
  names = m.names;
}

bare-module : (m : LlModule) (z : Kept) → without_places (module_of m z) ≡ module_of m (bare_kept z)
unfolding without_places
bare-module m z = λ i. record {
  targets = map bare_target z.0;
  structs = map bare_struct z.1.0;
  variables = map bare_variable z.1.1.0;
  declares = map bare_head z.1.1.1.1.0;
  functions = (map-twice (λ p. p.0) (function_changed name_unplaced no_place) z.1.1.1.0 ∙ sym (map-twice bare_function (λ p. p.0) z.1.1.1.0)) i;
  bodies = (map-twice (λ p. p.1) (body_changed name_unplaced no_place) z.1.1.1.0 ∙ sym (map-twice bare_function (λ p. p.1) z.1.1.1.0)) i;
  ocl_version = map bare_node z.1.1.1.1.1.0;
  nodes = map bare_metadata z.1.1.1.1.1.1;
  pointer = m.pointer;
  names = m.names;
}

module _ (tokens : List Lexeme) (m : LlModule) (is : IsModule tokens m) where
  own-bare : without_places m ≡ module_of m (bare_kept (kept_of is.items))
  unfolding without_places
  own-bare = λ i. record {
    targets = map bare_target (is.targets i);
    structs = map bare_struct (is.structs i);
    variables = map bare_variable (is.variables i);
    declares = map bare_head (is.declares i);
    functions = (ap (map (function_changed name_unplaced no_place)) is.functions ∙ (halves functions_of (function_changed name_unplaced no_place) (λ p. (bare_function p).0) bare-functions is.items ∙ sym (map-twice bare_function (λ p. p.0) (flat_map pairs_of is.items)))) i;
    bodies = (ap (map (body_changed name_unplaced no_place)) is.bodies ∙ (halves bodies_of (body_changed name_unplaced no_place) (λ p. (bare_function p).1) bare-bodies is.items ∙ sym (map-twice bare_function (λ p. p.1) (flat_map pairs_of is.items)))) i;
    ocl_version = map bare_node (is.ocl_version i);
    nodes = map bare_metadata (is.nodes i);
    pointer = m.pointer;
    names = m.names;
  }

  pub own-phrase : kept_phrase m.names (kept_of is.items) ≡ module_phrase m
  own-phrase = λ i.
      each_phrase target_line (sym is.targets i) & each_phrase (struct_line m.names) (sym is.structs i) & each_phrase (variable_line m.names) (sym is.variables i) &
      each_phrase (function_phrase m.names) (sym (ap₂ zip is.functions is.bodies ∙ zip-items is.items) i) & each_phrase (declaration_line m.names) (sym is.declares i) &
      version_line (sym is.ocl_version i) & each_phrase (node_line m.names) (sym is.nodes i)

  pub phrase-written : Written false true bare_kept (kept_production m.names) (module_phrase m) (kept_of is.items)
  phrase-written = same-phrase own-phrase (kept-written m.names is.items tokens [] is.reads)

  -- what the tokens of the phrase are
  pub module-again : (ts : List Lexeme) (z : Kept) → bare_kept z ≡ bare_kept (kept_of is.items) → kept_production m.names z ts [] → (found : LlModule) × IsSame found m × IsModule ts found
  module-again ts z same has = (
    module_of m z,
    bare-module m z ∙ (ap (module_of m) same ∙ sym own-bare),
    record {
      items = items_of z;
      reads = items-again m.names z ts [] has;
      targets = sym (targets-again z);
      structs = sym (structs-again z);
      variables = sym (variables-again z);
      declares = sym (declarations-again z);
      functions = sym (functions-again z);
      bodies = sym (bodies-again z);
      ocl_version = sym (versions-again z);
      nodes = sym (nodes-again z);
      pointer = is.pointer;
      distinct = is.distinct;
    },
  )

pub again : (tokens : List Lexeme) (m : LlModule) → IsModule tokens m → (ts : List Lexeme) → spelled (module_phrase m) ts [] → (found : LlModule) × IsSame found m × IsModule ts found
again tokens m is ts spelt =
    let (z, same, has) = (phrase-written tokens m is).reads ts [] spelt in
    module-again tokens m is ts z same has

pub with-tokens : (tokens : List Lexeme) (m : LlModule) → IsModule tokens m → (ts : List Lexeme) × IsTokens (written (module_phrase m)) ts × spelled (module_phrase m) ts []
with-tokens tokens m is = texts-read (module_phrase m) (laid-out false true (module_phrase m) (phrase-written tokens m is).laid)
