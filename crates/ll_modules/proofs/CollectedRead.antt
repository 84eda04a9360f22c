-- Modules as they are read, item by item: what a loop keeps, and what its exits answer.
use Rattle.std.proofs.Common.{◌≡◌, ℕ, ◌-◌, ◌<◌, ◌≤◌, List, [], ◌∷◌, ◌++◌, append-nil, length, drop, map, flat_map, refl, sym, ap, ◌∙◌, subst, inl, arith}
use Rattle.std.proofs.lemmas.List.{drop_all, flat_map_more, length-map, map-append}
use Rattle.ll_tokens.specs.declared.kinds.Token.{Token}
use Rattle.ll_tokens.specs.Tokens.{Lexeme, lexeme_of, lexemes_of}
use Rattle.ll_tree.specs.declared.module.LlModule.{LlModule}
use Rattle.ll_tree.specs.declared.name.NameText.{NameText}
use Rattle.ll_parser.specs.declared.refusal.ReadError.{ReadError}
use Rattle.ll_parser.specs.declared.refusal.ReadError.TheVariants.{NoMemory, Refused}
use Rattle.ll_parser.specs.declared.refusal.Refusal.{Refusal}
use Rattle.ll_parser.specs.GrammarItems.{IsModule, Item, bodies_of, declarations_of, functions_of, nodes_of, structs_of, targets_of, variables_of, versions_of}
use Rattle.ll_parser.specs.NameReading.{ReadsWith}
use Rattle.ll_parser.specs.Productions.{Production}
use Rattle.ll_parser.specs.Reading.{EndsNowhere}
use Rattle.ll_parser.specs.Tables.{NoNameTwice}
use Rattle.ll_parser.proofs.TableFacts.{extends_same, extends_then}
use Rattle.ll_types.specs.ValueRefusals.{Unless}
use Rattle.ll_types.proofs.MembersRead.{derived}
use Rattle.ll_types.proofs.PartsRead.{here_fewer}
use Rattle.ll_types.proofs.Tokens.{Shortens}
use Rattle.ll_operands.specs.Parts.{Refuses}
use Rattle.ll_attributes.proofs.ListFacts.{each_push}
use Rattle.ll_attributes.proofs.LoopFacts.{SoFar, at_start, fewer_left, one_more, so_far}
use Rattle.ll_items.specs.declared.small_items.SmallItem.TheVariants as small
use Rattle.ll_modules.specs.declared.collected.Collected.{Collected}
use Rattle.ll_modules.specs.declared.items.ModuleItem.{ModuleItem}
use Rattle.ll_modules.specs.declared.items.ModuleItem.TheVariants.{Small, Declaration, Definition}
use Rattle.ll_modules.specs.ModuleItems.{grammar_item, item_here, module_item_part}
use Rattle.ll_modules.specs.Modules.{Collects, IsNoModule, collected_items, ended, items_part, module_of, none_collected, with_item}
use Rattle.ll_modules.proofs.ItemsExact.{item_shortens}
use Rattle.ll_modules.proofs.ItemsWhole.{items_right, items_times, refused_of_none}

-- what is kept with a further item is what was kept and what that has
targets_grow : (c : Collected) (x : ModuleItem) → (with_item c x).targets ≡ c.targets ++ targets_of (grammar_item x)
targets_grow c (Small (small.Target t)) = refl
targets_grow c other = sym (append-nil c.targets)

structs_grow : (c : Collected) (x : ModuleItem) → (with_item c x).structs ≡ c.structs ++ structs_of (grammar_item x)
structs_grow c (Small (small.Struct s)) = refl
structs_grow c other = sym (append-nil c.structs)

variables_grow : (c : Collected) (x : ModuleItem) → (with_item c x).variables ≡ c.variables ++ variables_of (grammar_item x)
variables_grow c (Small (small.Variable v)) = refl
variables_grow c other = sym (append-nil c.variables)

declares_grow : (c : Collected) (x : ModuleItem) → (with_item c x).declares ≡ c.declares ++ declarations_of (grammar_item x)
declares_grow c (Declaration h) = refl
declares_grow c (Small small.Dropped) = sym (append-nil c.declares)
declares_grow c other = sym (append-nil c.declares)

functions_grow : (c : Collected) (x : ModuleItem) → (with_item c x).functions ≡ c.functions ++ functions_of (grammar_item x)
functions_grow c (Definition d) = refl
functions_grow c (Small small.Dropped) = sym (append-nil c.functions)
functions_grow c other = sym (append-nil c.functions)

bodies_grow : (c : Collected) (x : ModuleItem) → (with_item c x).bodies ≡ c.bodies ++ bodies_of (grammar_item x)
bodies_grow c (Definition d) = refl
bodies_grow c (Small small.Dropped) = sym (append-nil c.bodies)
bodies_grow c other = sym (append-nil c.bodies)

versions_grow : (c : Collected) (x : ModuleItem) → (with_item c x).ocl_version ≡ c.ocl_version ++ versions_of (grammar_item x)
versions_grow c (Small (small.Versions nodes)) = refl
versions_grow c other = sym (append-nil c.ocl_version)

nodes_grow : (c : Collected) (x : ModuleItem) → (with_item c x).nodes ≡ c.nodes ++ nodes_of (grammar_item x)
nodes_grow c (Small (small.Node n)) = refl
nodes_grow c other = sym (append-nil c.nodes)

grown : {A : Type 0} (f : Item → List A) (is : List Item) (i : Item) (before after : List A) → before ≡ flat_map f is → after ≡ before ++ f i → after ≡ flat_map f (is ++ i ∷ [])
grown f is i before after kept more = more ∙ ap (λ xs. xs ++ f i) kept ∙ flat_map_more f [] is i

one_item_more : (is : List Item) (x : ModuleItem) (c : Collected) → Collects is c → Collects (is ++ grammar_item x ∷ []) (with_item c x)
one_item_more is x c k = record {
  targets = grown targets_of is (grammar_item x) _ _ k.targets (targets_grow c x);
  structs = grown structs_of is (grammar_item x) _ _ k.structs (structs_grow c x);
  variables = grown variables_of is (grammar_item x) _ _ k.variables (variables_grow c x);
  declares = grown declarations_of is (grammar_item x) _ _ k.declares (declares_grow c x);
  functions = grown functions_of is (grammar_item x) _ _ k.functions (functions_grow c x);
  bodies = grown bodies_of is (grammar_item x) _ _ k.bodies (bodies_grow c x);
  ocl_version = grown versions_of is (grammar_item x) _ _ k.ocl_version (versions_grow c x);
  nodes = grown nodes_of is (grammar_item x) _ _ k.nodes (nodes_grow c x);
}

push_item : (names : List NameText) (c : Collected) (x : ModuleItem) (a b e : List Lexeme) → collected_items names c a b → item_here names x b e → collected_items names (with_item c x) a e
push_item names c x a b e (xs, kept, before) d = (
  xs ++ x ∷ [],
  subst (λ (is : List Item). Collects is (with_item c x)) (sym (map-append grammar_item xs (x ∷ []))) (one_item_more (map grammar_item xs) x c kept),
  each_push (item_here names) xs x a b e before d,
)

-- the loop
abbrev pub Kept : (old now : List NameText) (c : Collected) → Production
Kept old now c = ReadsWith collected_items old now c

none_here : (names : List NameText) (tokens : List Lexeme) → collected_items names none_collected tokens tokens
none_here names tokens = ([], record { targets = refl; structs = refl; variables = refl; declares = refl; functions = refl; bodies = refl; ocl_version = refl; nodes = refl }, refl)

pub none_kept : (names : List NameText) (c : Collected) (tokens : List Token) (left : ℕ) → c ≡ none_collected → left ≡ length tokens → SoFar (Kept names names c) tokens left
none_kept names c tokens left empty whole =
    at_start (Kept names names c) tokens left
    (record { extends = extends_same names; reads = λ longer e. subst (λ (x : Collected). collected_items longer x (lexemes_of tokens) (lexemes_of tokens)) (sym empty) (none_here longer (lexemes_of tokens)) }) whole

with_shortens : (old new : List NameText) (x : ModuleItem) → Shortens (ReadsWith item_here old new x)
with_shortens old new x tokens rest r = item_shortens new x tokens rest (derived item_here old new x tokens rest r)

one_kept : (old now next : List NameText) (c : Collected) (x : ModuleItem) (a b e : List Lexeme) → Kept old now c a b → ReadsWith item_here now next x b e → Kept old next (with_item c x) a e
one_kept old now next c x a b e before r = record {
  extends = extends_then old now next before.extends r.extends;
  reads = λ longer ext. push_item longer c x a b e (before.reads longer (extends_then now next longer r.extends ext)) (r.reads longer ext);
}

pub fewer_items : (old now next : List NameText) (c : Collected) (x : ModuleItem) (tokens here behind : List Token) (left : ℕ) → SoFar (Kept old now c) tokens left → here ≡ drop (length tokens - left) tokens → ReadsWith item_here now next x (lexemes_of here) (lexemes_of behind) → length behind < left
fewer_items old now next c x tokens here behind left = fewer_left (Kept old now c) (ReadsWith item_here now next x) (with_shortens now next x) tokens here behind left

pub more_items : (old now next : List NameText) (c d : Collected) (x : ModuleItem) (tokens here behind : List Token) (left after : ℕ) → SoFar (Kept old now c) tokens left → here ≡ drop (length tokens - left) tokens → ReadsWith item_here now next x (lexemes_of here) (lexemes_of behind) → d ≡ with_item c x → after ≡ length behind → SoFar (Kept old next d) tokens after
more_items old now next c d x tokens here behind left after s is r added count =
    subst (λ (y : Collected). SoFar (Kept old next y) tokens after) (sym added)
    (one_more (Kept old now c) (ReadsWith item_here now next x) (with_shortens now next x) (Kept old next (with_item c x)) tokens here behind left after (one_kept old now next c x) s is r count)

-- the exits
not_ended : (tokens here : List Token) (left : ℕ) → left ≤ length tokens → here ≡ drop (length tokens - left) tokens → 0 < left → EndsNowhere ended (lexemes_of here)
not_ended tokens here left bound is some b none =
    let count : length here ≡ left = here_fewer tokens here left bound is in
    let same : length (lexemes_of here) ≡ length here = length-map here lexeme_of in
    let empty : length (lexemes_of here) ≡ 0 = ap length none in
    absurd (omega arith)

pub items_told : (old now : List NameText) (c : Collected) (tokens here : List Token) (left : ℕ) (error told : ReadError) → told ≡ error → SoFar (Kept old now c) tokens left → here ≡ drop (length tokens - left) tokens → 0 < left → Refuses module_item_part (lexemes_of here) error → Refuses items_part (lexemes_of tokens) told
items_told old now c tokens here left NoMemory told same s is some x = subst (Refuses items_part (lexemes_of tokens)) (sym same) tt
items_told old now c tokens here left (Refused refusal) told same s is some x =
    subst (Refuses items_part (lexemes_of tokens)) (sym same) (stopped (derived collected_items old now c (lexemes_of tokens) (lexemes_of here) (so_far (Kept old now c) tokens here left s is)))
  where
    stopped : collected_items now c (lexemes_of tokens) (lexemes_of here) → items_part.stops (lexemes_of tokens) refusal
    stopped d = (length d.0, lexemes_of here, items_times now d.0 (lexemes_of tokens) (lexemes_of here) d.2, inl (not_ended tokens here left s.in_range is some, x))

pub items_read : (old now : List NameText) (c : Collected) (tokens : List Token) (left : ℕ) → SoFar (Kept old now c) tokens left → left ≡ 0 → Kept old now c (lexemes_of tokens) []
items_read old now c tokens left s none =
    subst (Kept old now c (lexemes_of tokens)) (ap lexemes_of (drop_all (length tokens - left) tokens (omega (arith, none)))) s.read

-- the module
pub module_read : (tokens : List Lexeme) (old table names : List NameText) (c : Collected) (m : LlModule) → Kept old table c tokens [] → names ≡ table → NoNameTwice table → m ≡ module_of c names → IsModule tokens m
module_read tokens old table names c m r same once is =
    subst (IsModule tokens) (sym (is ∙ ap (module_of c) same)) (made (derived collected_items old table c tokens [] r))
  where
    made : collected_items table c tokens [] → IsModule tokens (module_of c table)
    made d = record {
      items = map grammar_item d.0;
      reads = items_right table d.0 tokens [] d.2;
      targets = d.1.targets;
      structs = d.1.structs;
      variables = d.1.variables;
      declares = d.1.declares;
      functions = d.1.functions;
      bodies = d.1.bodies;
      ocl_version = d.1.ocl_version;
      nodes = d.1.nodes;
      pointer = refl;
      distinct = once;
    }

pub module_told : (tokens : List Lexeme) (error told : ReadError) → told ≡ error → Refuses items_part tokens error → Unless (λ (refusal : Refusal). items_part.stops tokens refusal × IsNoModule tokens) told
module_told tokens NoMemory told same x = subst (Unless (λ (refusal : Refusal). items_part.stops tokens refusal × IsNoModule tokens)) (sym same) tt
module_told tokens (Refused refusal) told same x =
    subst (Unless (λ (r : Refusal). items_part.stops tokens r × IsNoModule tokens)) (sym same) (x, λ m is. refused_of_none tokens refusal m x is)
