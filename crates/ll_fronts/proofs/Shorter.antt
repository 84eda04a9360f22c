-- Before the place of a refusal the tokens go on.
use Rattle.std.proofs.Common.{◌≡◌, ℕ, zero, suc, ◌+◌, ◌-◌, ◌≤◌, ◌<◌, List, [], ◌∷◌, length, take, Bool, true, false, true≢false, Option, None, Some, slice_get, refl, ap, sym, ◌∙◌, arith}
use Rattle.std.proofs.lemmas.List.{length-take-le}
use Rattle.kern_types.specs.declared.class.PointerWidth.TheVariants.{P64}
use Rattle.ll_tokens.specs.Tokens.{Lexeme}
use Rattle.ll_tree.specs.declared.module.LlModule.{LlModule}
use Rattle.ll_tree.specs.declared.name.NameText.{NameText}
use Rattle.ll_parser.specs.declared.refusal.Refusal.{Refusal}
use Rattle.ll_parser.specs.GrammarItems.{IsModule}
use Rattle.ll_modules.specs.Modules.{items_part}
use Rattle.ll_modules.proofs.ItemsWhole.{refused_of_none}
use Rattle.ll_places.proofs.Items.{once_items}
use Rattle.ll_fronts.specs.Laws.{ShorterListsGoOn}
use Rattle.ll_fronts.proofs.Refusals.{stay}

take_twice : {A : Type 0} (xs : List A) (k n : ℕ) → k ≤ n → take k (take n xs) ≡ take k xs
take_twice xs zero n le = refl
take_twice [] (suc k) zero le = refl
take_twice [] (suc k) (suc n) le = refl
take_twice (x ∷ xs) (suc k) zero le = absurd (omega (arith, le))
take_twice (x ∷ xs) (suc k) (suc n) le = let less : k ≤ n = omega (arith, le) in ap (λ rest. x ∷ rest) (take_twice xs k n less)

-- no tokens are those of a module without anything
abbrev nothing : LlModule
nothing = record { targets = []; structs = []; variables = []; declares = []; functions = []; bodies = []; ocl_version = []; nodes = []; pointer = P64; names = [] }

abbrev is_there : Option NameText → Bool
is_there None = false
is_there (Some entry) = true

none_given : (i j : ℕ) (entry : NameText) → slice_get nothing.names i ≡ Some entry → slice_get nothing.names j ≡ Some entry → i ≡ j
none_given i j entry first second = absurd (true≢false (sym (ap is_there first)))

is_nothing : IsModule [] nothing
is_nothing = record {
  items = [];
  reads = refl;
  targets = refl;
  structs = refl;
  variables = refl;
  declares = refl;
  functions = refl;
  bodies = refl;
  ocl_version = refl;
  nodes = refl;
  pointer = refl;
  distinct = none_given;
}

-- a place before the end of the shorter list would be one of the longer list too
before_end : (tokens : List Lexeme) (refusal other : Refusal) (n : ℕ) → items_part.stops tokens refusal → suc n ≤ length tokens - refusal.left → items_part.stops (take (suc n) tokens) other → 0 < other.left → ⊥
before_end tokens refusal other n d le e some =
    let within : suc n ≤ length tokens = omega (arith, le) in
    let long : length (take (suc n) tokens) ≡ suc n = length-take-le (suc n) tokens within in
    let few : length (take (suc n) tokens) - other.left + 1 ≤ suc n = rw long (omega (arith, some)) in
    let moved = stay (take (suc n) tokens) tokens other e some (sym (take_twice tokens (length (take (suc n) tokens) - other.left + 1) (suc n) few)) in
    let equal = ap (λ (r : Refusal). r.left) (once_items.refuses tokens refusal _ d moved) in
    let there : refusal.left ≡ length tokens - (suc n - other.left) = equal ∙ ap (λ m. length tokens - (m - other.left)) long in
    omega (arith, le, some, there, within)

at_end : (left : ℕ) (tokens : List Lexeme) (refusal other : Refusal) (n : ℕ) → other.left ≡ left → items_part.stops tokens refusal → n ≤ length tokens - refusal.left → items_part.stops (take n tokens) other → other.left ≡ 0
at_end zero tokens refusal other n is d le e = is
at_end (suc left) tokens refusal other zero is d le e = absurd (refused_of_none [] other nothing e is_nothing)
at_end (suc left) tokens refusal other (suc n) is d le e = absurd (before_end tokens refusal other n d le e (rw is (omega arith)))

pub go_on : ShorterListsGoOn
go_on tokens refusal other n d le e = at_end other.left tokens refusal other n refl d le e
