-- The graph of a body's blocks.
use Rattle.std.proofs.Common.{◌≡◌, ℕ, suc, ◌+◌, ◌<◌, ◌≤◌, Bool, true, false, cond, List, [], ◌∷◌, ◌++◌, Option, None, Some, IfSome, length, get_or, take, refl, sym, ◌∙◌, ap, subst, arith}
use Rattle.std.specs.Prelude.{All, map, slice_get}
use Rattle.std.specs.List.{filter_map, cons_option}
use Rattle.std.specs.Option.{option_map, option_to_list}
use Rattle.std.proofs.lemmas.List.{take_all, take_more}
use Rattle.std.proofs.lemmas.List.Elements.{filter_map-append, All-nil, All-cons, All-map}
use Rattle.std.proofs.lemmas.Option.{get_or_from_slice_get}
use Rattle.graph_walk.specs.Preorder.{preorder, preorder_within, IsGraph}
use Rattle.inst_walk.specs.Outline.{Outline}
use Rattle.inst_walk.specs.Body.{BlockOutline, BodyOutline, block_outline, body_outline, targets_of, block_names, edges_of}
use Rattle.inst_walk.specs.Places.{place_of, places_of}
use Rattle.inst_walk.specs.declared.body.Body.{Body}
use Rattle.inst_walk.specs.declared.body.Block.{Block}

pub map-map : {A B C : Type 0} (f : B → C) (g : A → B) (xs : List A) → map f (map g xs) ≡ map (λ x. f (g x)) xs
map-map f g [] = refl
map-map f g (x ∷ xs) = ap (λ ys. f (g x) ∷ ys) (map-map f g xs)

pub length-map : {A B : Type 0} (f : A → B) (xs : List A) → length (map f xs) ≡ length xs
length-map f [] = refl
length-map f (x ∷ xs) = ap suc (length-map f xs)

-- what a loop that took every item made of them
pub map-taken : {A B C : Type 0} (f : B → C) (g : A → B) (xs ys : List A) (made : List C) (n : ℕ) → length xs ≤ n → xs ≡ ys → made ≡ map (λ x. f (g x)) (take n xs) → made ≡ map f (map g ys)
map-taken f g xs ys made n all e m =
    m ∙ ap (map (λ x. f (g x))) (take_all n xs all ∙ e) ∙ sym (map-map f g ys)

pub cons_option-nil : {B : Type 0} (o : Option B) → cons_option o [] ≡ option_to_list o
cons_option-nil None = refl
cons_option-nil (Some y) = refl

pub filter_map-more : {A B : Type 0} (f : A → Option B) (xs : List A) (i : ℕ) (x : A) (made now : List B) → i < length xs → slice_get xs i ≡ Some x → made ≡ filter_map f (take i xs) → now ≡ made ++ option_to_list (f x) → now ≡ filter_map f (take (i + 1) xs)
filter_map-more f xs i x made now below at was step =
    step ∙ ap (λ m. m ++ option_to_list (f x)) was ∙ sym (
    ap (filter_map f) (take_more xs i x below ∙ ap (λ y. take i xs ++ y ∷ []) (get_or_from_slice_get xs i x x at))
    ∙ filter_map-append f (take i xs) (x ∷ []) ∙ ap (λ r. filter_map f (take i xs) ++ r) (cons_option-nil (f x)))

module _ {N : Type 0} (eq : N → N → Bool) where
  below-cond : (b : Bool) (place : Option ℕ) (n : ℕ) → IfSome place (λ k. k < n) → IfSome (cond b (Some 0) (option_map suc place)) (λ k. k < suc n)
  below-cond true place n h = omega arith
  below-cond false None n h = h
  below-cond false (Some k) n h = omega (arith, h)

  pub place_of-below : (names : List N) (name : N) → IfSome (place_of eq names name) (λ k. k < length names)
  place_of-below [] name = tt
  place_of-below (n ∷ names) name = below-cond (eq n name) (place_of eq names name) (length names) (place_of-below names name)

  All-cons_option : (P : ℕ → Type 0) (o : Option ℕ) (xs : List ℕ) → IfSome o P → All P xs → All P (cons_option o xs)
  All-cons_option P None xs h all = all
  All-cons_option P (Some k) xs h all = All-cons P k xs h all

  pub places_of-below : (names wanted : List N) → All (λ k. k < length names) (places_of eq names wanted)
  places_of-below names [] = All-nil (λ k. k < length names)
  places_of-below names (w ∷ wanted) =
      All-cons_option (λ k. k < length names) (place_of eq names w) (places_of eq names wanted) (place_of-below names w) (places_of-below names wanted)

  pub edges_of-graph : (body : BodyOutline N) → IsGraph (edges_of eq body)
  edges_of-graph body =
      let same : length (edges_of eq body) ≡ length (block_names body) = length-map (λ b. places_of eq (block_names body) (targets_of b)) body.blocks ∙ sym (length-map (λ (b : BlockOutline N). b.name) body.blocks) in
      subst (λ n. All (λ row. All (λ t. t < n) row) (edges_of eq body)) (sym same)
      (All-map (λ row. All (λ t. t < length (block_names body)) row) (λ b. places_of eq (block_names body) (targets_of b)) body.blocks
      (λ k d below. places_of-below (block_names body) (targets_of (get_or body.blocks k d))))

pub preorder-none : (rows : List (List ℕ)) → rows ≡ [] → preorder rows 0 [] ≡ []
unfolding preorder preorder_within
preorder-none rows e = ap (λ r. preorder r 0 []) e

pub preorder-of-none : {N : Type 0} (eq : N → N → Bool) (body : BodyOutline N) → body.blocks ≡ [] → preorder (edges_of eq body) 0 [] ≡ []
preorder-of-none eq body e =
    preorder-none (edges_of eq body) (ap (map (λ b. places_of eq (block_names body) (targets_of b))) e)

pub edges-made : {I N : Type 0} (eq : N → N → Bool) (outline : I → Outline N) (body : Body I N) (names : List N) (blocks : List (Block I N)) → names ≡ block_names (body_outline outline body) → blocks ≡ body.blocks → map (λ b. places_of eq names (targets_of (block_outline outline b))) blocks ≡ edges_of eq (body_outline outline body)
edges-made eq outline body names blocks n b =
    ap (λ ns. map (λ b. places_of eq ns (targets_of (block_outline outline b))) blocks) n
    ∙ ap (map (λ b. places_of eq (block_names (body_outline outline body)) (targets_of (block_outline outline b)))) b
    ∙ sym (map-map (λ b. places_of eq (block_names (body_outline outline body)) (targets_of b)) (block_outline outline) body.blocks)
