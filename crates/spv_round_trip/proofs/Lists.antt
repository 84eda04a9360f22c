-- The items that a reader finds among instructions.
use Rattle.std.proofs.Common.{◌≡◌, ℕ, ◌+◌, ◌==◌, Bool, true, false, List, [], ◌∷◌, ◌++◌, All, map, length, Option, Some, None, refl, ap, ap₂, sym, ◌∙◌, append-nil, eqb-true}
use Rattle.std.specs.Prelude.{if◌then◌else◌}
use Rattle.std.specs.List.{flat_map}
use Rattle.std.specs.Option.{option_map, option_to_list}
use Rattle.std.proofs.lemmas.Bool.{false≢true}
use Rattle.std.proofs.lemmas.Grind.{flat_map-append}
use Rattle.std.proofs.lemmas.List.{map-append}
use Rattle.std.proofs.lemmas.List.Elements.{All-head, All-tail}
use Rattle.spv_codec.specs.declared.module.RawInst.{RawInst}
use Rattle.spv_layout.specs.declared.opcode.Opcode.{Opcode}
use Rattle.spv_layout.specs.Forms.{number_of}
use Rattle.spv_module.specs.Sections.{placed}
use Rattle.spv_build.specs.Items.{items_of, said_by}
use Rattle.spv_build.specs.Laws.{at}

abbrev pub Each : {A : Type 0} → (A → Type 0) → List A → Type 0
Each P [] = Unit {0}
Each P (x ∷ xs) = P x × Each P xs

pub each-append : {A : Type 0} (P : A → Type 0) (xs ys : List A) → Each P xs → Each P ys → Each P (xs ++ ys)
each-append P [] ys first second = second
each-append P (x ∷ xs) ys first second = (first.0, each-append P xs ys first.1 second)

pub each-map : {A B : Type 0} (P : B → Type 0) (f : A → B) → ((x : A) → P (f x)) → (xs : List A) → Each P (map f xs)
each-map P f all [] = tt
each-map P f all (x ∷ xs) = (all x, each-map P f all xs)

pub each-flat : {A B : Type 0} (P : B → Type 0) (f : A → List B) → ((x : A) → Each P (f x)) → (xs : List A) → Each P (flat_map f xs)
each-flat P f all [] = tt
each-flat P f all (x ∷ xs) = each-append P (f x) (flat_map f xs) (all x) (each-flat P f all xs)

pub each-weaker : {A : Type 0} (P Q : A → Type 0) → ((x : A) → P x → Q x) → (xs : List A) → Each P xs → Each Q xs
each-weaker P Q weaker [] each = tt
each-weaker P Q weaker (x ∷ xs) each = (weaker x each.0, each-weaker P Q weaker xs each.1)

map-option : {A B : Type 0} (f : A → B) (o : Option A) → map f (option_to_list o) ≡ option_to_list (option_map f o)
map-option f None = refl
map-option f (Some x) = refl

module _ {A : Type 0} (f : RawInst → Option A) where
  -- what is read of an instruction, wherever it stands
  abbrev pub anywhere : RawInst → Option A
  anywhere inst = f (at 0 inst)

  pub items-placed : (place : ℕ) (insts : List RawInst) → items_of anywhere (placed place insts) ≡ items_of anywhere insts
  items-placed place [] = refl
  items-placed place (inst ∷ insts) =
      ap (λ rest. option_to_list (anywhere inst) ++ rest) (items-placed (place + (length inst.operands + 1)) insts)

  pub items-moved : (moved : A → A) → ((inst : RawInst) → option_map moved (f inst) ≡ anywhere inst) → (insts : List RawInst) → map moved (items_of f insts) ≡ items_of anywhere insts
  items-moved moved natural [] = refl
  items-moved moved natural (inst ∷ insts) =
      map-append moved (option_to_list (f inst)) (items_of f insts)
      ∙ ap₂ (λ xs ys. xs ++ ys) (map-option moved (f inst) ∙ ap option_to_list (natural inst)) (items-moved moved natural insts)

  -- an instruction of which nothing is read
  abbrev pub IsSilent : RawInst → Type 0
  IsSilent inst = f inst ≡ None

  pub items-none : (insts : List RawInst) → Each IsSilent insts → items_of f insts ≡ []
  items-none [] silent = refl
  items-none (inst ∷ insts) silent = ap₂ (λ o rest. option_to_list o ++ rest) silent.0 (items-none insts silent.1)

  pub items-each : {X : Type 0} (g : X → RawInst) (h : X → A) (xs : List X) → Each (λ x. f (g x) ≡ Some (h x)) xs → items_of f (map g xs) ≡ map h xs
  items-each g h [] each = refl
  items-each g h (x ∷ xs) each = ap₂ (λ o rest. option_to_list o ++ rest) each.0 (items-each g h xs each.1)

  -- what stands before is silent
  pub items-behind : (xs ys : List RawInst) (items : List A) → Each IsSilent xs → items_of f ys ≡ items → items_of f (xs ++ ys) ≡ items
  items-behind xs ys items silent e = flat_map-append (λ inst. option_to_list (f inst)) xs ys ∙ ap₂ (λ a b. a ++ b) (items-none xs silent) e

  -- and what stands behind
  pub items-before : (xs ys : List RawInst) (items : List A) → items_of f xs ≡ items → Each IsSilent ys → items_of f (xs ++ ys) ≡ items
  items-before xs ys items e silent =
      flat_map-append (λ inst. option_to_list (f inst)) xs ys ∙ (ap₂ (λ a b. a ++ b) e (items-none ys silent) ∙ append-nil items)

-- a reader of one opcode reads nothing of an instruction of another one
pub said-silent : {A : Type 0} (test : ℕ → Bool) (opcode : Opcode) (read : ℕ → List ℕ → Option A) → test (number_of opcode) ≡ false
    → (inst : RawInst) → test inst.op ≡ true → said_by opcode read inst ≡ None
said-silent test opcode read other inst passes = by_test (inst.op == number_of opcode) (λ is. eqb-true inst.op (number_of opcode) is)
  where
    by_test : (b : Bool) → (b ≡ true → inst.op ≡ number_of opcode) → (if b then read inst.place inst.operands else None) ≡ None
    by_test true is = absurd (false≢true (sym other ∙ (ap test (sym (is refl)) ∙ passes)))
    by_test false is = refl

-- and reads the same wherever it stands, but for the place
pub said-natural : {A : Type 0} (moved : A → A) (opcode : Opcode) (read : ℕ → List ℕ → Option A)
    → ((place : ℕ) (words : List ℕ) → option_map moved (read place words) ≡ read 0 words)
    → (inst : RawInst) → option_map moved (said_by opcode read inst) ≡ said_by opcode read (at 0 inst)
said-natural moved opcode read natural inst = by_test (inst.op == number_of opcode)
  where
    by_test : (b : Bool) → option_map moved (if b then read inst.place inst.operands else None) ≡ (if b then read 0 inst.operands else None)
    by_test true = natural inst.place inst.operands
    by_test false = refl

pub each-all : {A : Type 0} (P : A → Type 0) → ((x : A) → P x) → (xs : List A) → Each P xs
each-all P all [] = tt
each-all P all (x ∷ xs) = (all x, each-all P all xs)

pub each-from : {A : Type 0} (P Q : A → Type 0) → ((x : A) → P x → Q x) → (xs : List A) → All P xs → Each Q xs
each-from P Q give [] all = tt
each-from P Q give (x ∷ xs) all = (give x (All-head P x xs all), each-from P Q give xs (All-tail P x xs all))
