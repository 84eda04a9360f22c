-- The graph of calls.
use Rattle.std.proofs.Common.{◌≡◌, ℕ, ◌+◌, ◌<◌, ◌≤◌, Bool, List, [], ◌∷◌, ◌++◌, Option, None, Some, IfSome, length, get_or, take, refl, sym, ◌∙◌, ap, subst, append_assoc}
use Rattle.std.specs.Prelude.{All, map, flat_map}
use Rattle.std.specs.List.{filter_map, cons_option}
use Rattle.std.specs.Option.{option_map, option_and_then, option_to_list}
use Rattle.std.proofs.lemmas.Grind.{flat_map-append}
use Rattle.std.proofs.lemmas.List.{take_all, take_more, append-nil}
use Rattle.std.proofs.lemmas.List.Elements.{filter_map-append, All-map}
use Rattle.graph_walk.specs.Preorder.{IsGraph}
use Rattle.inst_walk.specs.Body.{BodyOutline, block_outline, body_outline}
use Rattle.inst_walk.specs.Calls.{block_callees, callees_of, calls_of, first_in_body, first_cycle_call}
use Rattle.inst_walk.specs.First.{first_from}
use Rattle.inst_walk.specs.Outline.{Outline}
use Rattle.inst_walk.specs.Places.{place_of, places_of}
use Rattle.inst_walk.specs.declared.body.Block.{Block}
use Rattle.inst_walk.specs.declared.body.Body.{Body}
use Rattle.inst_walk.proofs.BlockGraph.{cons_option-nil, length-map, place_of-below, places_of-below}

-- one filter after another is one by both
two-filters-at : {A B C : Type 0} (p : B → Option C) (h : A → Option B) (xs : List A) (o : Option B) → filter_map p (filter_map h xs) ≡ filter_map (λ x. option_and_then p (h x)) xs → filter_map p (cons_option o (filter_map h xs)) ≡ cons_option (option_and_then p o) (filter_map (λ x. option_and_then p (h x)) xs)
two-filters-at p h xs None rest = rest
two-filters-at p h xs (Some y) rest = ap (cons_option (p y)) rest

two-filters : {A B C : Type 0} (p : B → Option C) (h : A → Option B) (xs : List A) → filter_map p (filter_map h xs) ≡ filter_map (λ x. option_and_then p (h x)) xs
two-filters p h [] = refl
two-filters p h (x ∷ xs) = two-filters-at p h xs (h x) (two-filters p h xs)

pub filter_map-map : {A B C : Type 0} (h : B → Option C) (f : A → B) (xs : List A) → filter_map h (map f xs) ≡ filter_map (λ x. h (f x)) xs
filter_map-map h f [] = refl
filter_map-map h f (x ∷ xs) = ap (cons_option (h (f x))) (filter_map-map h f xs)

-- a loop over the items has taken one more
pub filter_map-one-more : {A B : Type 0} (f : A → Option B) (xs : List A) (i : ℕ) (x : A) (before made now : List B) → i < length xs → x ≡ get_or xs i x → made ≡ before ++ filter_map f (take i xs) → now ≡ made ++ option_to_list (f x) → now ≡ before ++ filter_map f (take (i + 1) xs)
filter_map-one-more f xs i x before made now below read was step =
    step ∙ ap (λ m. m ++ option_to_list (f x)) was ∙ append_assoc before (filter_map f (take i xs)) (option_to_list (f x))
    ∙ ap (λ r. before ++ r) (sym (
    ap (filter_map f) (take_more xs i x below ∙ ap (λ y. take i xs ++ y ∷ []) (sym read))
    ∙ filter_map-append f (take i xs) (x ∷ []) ∙ ap (λ r. filter_map f (take i xs) ++ r) (cons_option-nil (f x))))

module _ {N : Type 0} (eq : N → N → Bool) where
  -- what the loop over a block's instructions adds
  pub callees-added : {I : Type 0} (outline : I → Outline N) (names : List N) (insts : List I) (n : ℕ) (before made : List ℕ) → length insts ≤ n → made ≡ before ++ filter_map (λ inst. option_and_then (place_of eq names) (outline inst).calls) (take n insts) → made ≡ before ++ places_of eq names (filter_map (λ inst. (outline inst).calls) insts)
  callees-added outline names insts n before made all was =
      was ∙ ap (λ l. before ++ filter_map (λ inst. option_and_then (place_of eq names) (outline inst).calls) l) (take_all n insts all)
      ∙ ap (λ l. before ++ l) (sym (two-filters (place_of eq names) (λ inst. (outline inst).calls) insts))

  module _ {I : Type 0} (outline : I → Outline N) (names : List N) where
    abbrev pub called_in : Block I N → List N
    called_in block = filter_map (λ inst. (outline inst).calls) block.insts

    pub block-added : (blocks : List (Block I N)) (i : ℕ) (block : Block I N) (insts : List I) (made now : List ℕ) → i < length blocks → block ≡ get_or blocks i block → insts ≡ block.insts → made ≡ places_of eq names (flat_map called_in (take i blocks)) → now ≡ made ++ places_of eq names (filter_map (λ inst. (outline inst).calls) insts) → now ≡ places_of eq names (flat_map called_in (take (i + 1) blocks))
    block-added blocks i block insts made now below read same was step =
        step ∙ ap (λ l. made ++ places_of eq names (filter_map (λ inst. (outline inst).calls) l)) same
        ∙ ap (λ m. m ++ places_of eq names (called_in block)) was
        ∙ sym (filter_map-append (place_of eq names) (flat_map called_in (take i blocks)) (called_in block))
        ∙ ap (places_of eq names) (sym (
        ap (flat_map called_in) (take_more blocks i block below ∙ ap (λ y. take i blocks ++ y ∷ []) (sym read))
        ∙ flat_map-append called_in (take i blocks) (block ∷ [])
        ∙ ap (λ l. flat_map called_in (take i blocks) ++ l) (append-nil (called_in block))))

    called-outlined : (blocks : List (Block I N)) → flat_map block_callees (map (block_outline outline) blocks) ≡ flat_map called_in blocks
    called-outlined [] = refl
    called-outlined (b ∷ blocks) =
        ap (λ l. l ++ flat_map block_callees (map (block_outline outline) blocks)) (filter_map-map (λ (o : Outline N). o.calls) outline b.insts)
        ∙ ap (λ l. called_in b ++ l) (called-outlined blocks)

    pub blocks-added : (body : Body I N) (blocks : List (Block I N)) (n : ℕ) (made : List ℕ) → length blocks ≤ n → blocks ≡ body.blocks → made ≡ places_of eq names (flat_map called_in (take n blocks)) → made ≡ places_of eq names (callees_of (body_outline outline body))
    blocks-added body blocks n made all same was =
        was ∙ ap (λ l. places_of eq names (flat_map called_in l)) (take_all n blocks all ∙ same)
        ∙ ap (places_of eq names) (sym (called-outlined body.blocks))

  pub calls_of-graph : (names : List N) (bodies : List (BodyOutline N)) (rows : List (List ℕ)) → length names ≡ length bodies → rows ≡ calls_of eq names bodies → IsGraph rows × (length names ≡ length rows)
  calls_of-graph names bodies rows each made =
      let count : length names ≡ length rows = each ∙ sym (length-map (λ body. places_of eq names (callees_of body)) bodies) ∙ sym (ap length made) in (
        subst (λ n. All (λ row. All (λ t. t < n) row) rows) count
            (subst (λ r. All (λ row. All (λ t. t < length names) row) r) (sym made)
            (All-map (λ row. All (λ t. t < length names) row) (λ body. places_of eq names (callees_of body)) bodies
            (λ k d below. places_of-below eq names (callees_of (get_or bodies k d))))),
        count,
      )

  none-some : {k : ℕ} → None ≡ Some k → ⊥
  none-some e = cc

  pub called-inside : (names : List N) (callee : Option N) (place : ℕ) → option_and_then (place_of eq names) callee ≡ Some place → place < length names
  called-inside names None place e = absurd (none-some e)
  called-inside names (Some name) place e = subst (λ o. IfSome o (λ k. k < length names)) e (place_of-below eq names name)

  -- the search over the graph of calls is the search of the definition
  pub found-first : (names functions : List N) (bodies : List (BodyOutline N)) (rows : List (List ℕ)) (found : Option (ℕ × (ℕ × ℕ))) → rows ≡ calls_of eq names bodies → functions ≡ names → found ≡ first_from (first_in_body eq rows functions) 0 bodies → option_map (λ (p : ℕ × (ℕ × ℕ)). (p.0, p.1.0, p.1.1)) found ≡ first_cycle_call eq names bodies
  unfolding first_cycle_call
  found-first names functions bodies rows found r f e =
      ap (option_map (λ (p : ℕ × (ℕ × ℕ)). (p.0, p.1.0, p.1.1)))
      (e ∙ ap (λ rs. first_from (first_in_body eq rs functions) 0 bodies) r ∙ ap (λ ns. first_from (first_in_body eq (calls_of eq names bodies) ns) 0 bodies) f)
