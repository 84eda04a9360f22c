-- What holds of each member of a list, and of each instruction whatever its place.
use Rattle.std.proofs.Common.{◌≡◌, ℕ, ◌+◌, Bool, true, false, List, [], ◌∷◌, ◌++◌, length, refl}
use Rattle.std.specs.List.{list_any}
use Rattle.std.proofs.lemmas.Bool.{false≢true, or_from, or_parts}
use Rattle.spv_codec.specs.declared.module.RawInst.{RawInst}
use Rattle.spv_module.specs.Sections.{placed}

abbrev pub Each : {A : Type 0} → (A → Type 0) → List A → Type 0
Each P [] = Unit {0}
Each P (x ∷ xs) = P x × Each P xs

pub each-append : {A : Type 0} (P : A → Type 0) (xs ys : List A) → Each P xs → Each P ys → Each P (xs ++ ys)
each-append P [] ys first second = second
each-append P (x ∷ xs) ys first second = (first.0, each-append P xs ys first.1 second)

pub each-front : {A : Type 0} (P : A → Type 0) (xs ys : List A) → Each P (xs ++ ys) → Each P xs
each-front P [] ys all = tt
each-front P (x ∷ xs) ys all = (all.0, each-front P xs ys all.1)

pub each-behind : {A : Type 0} (P : A → Type 0) (xs ys : List A) → Each P (xs ++ ys) → Each P ys
each-behind P [] ys all = all
each-behind P (x ∷ xs) ys all = each-behind P xs ys all.1

pub each-weaker : {A : Type 0} (P Q : A → Type 0) → ((x : A) → P x → Q x) → (xs : List A) → Each P xs → Each Q xs
each-weaker P Q weaker [] all = tt
each-weaker P Q weaker (x ∷ xs) all = (weaker x all.0, each-weaker P Q weaker xs all.1)

-- instructions that are told their places
pub each-placed : (P : RawInst → Type 0) → ((inst : RawInst) (place : ℕ) → P inst → P (record inst { place = place })) → (place : ℕ) (insts : List RawInst)
    → Each P insts → Each P (placed place insts)
each-placed P kept place [] all = tt
each-placed P kept place (inst ∷ insts) all = (kept inst place all.0, each-placed P kept (place + (length inst.operands + 1)) insts all.1)

-- no member passes a test
pub none-more : {A : Type 0} (test : A → Bool) (x : A) (xs : List A) → test x ≡ false → list_any test xs ≡ false → list_any test (x ∷ xs) ≡ false
none-more test x xs here behind = or_from (test x) (list_any test xs) here behind

pub none-of : {A : Type 0} (test : A → Bool) (xs : List A) → Each (λ x. test x ≡ false) xs → list_any test xs ≡ false
none-of test [] all = refl
none-of test (x ∷ xs) all = none-more test x xs all.0 (none-of test xs all.1)

-- nor one that is harder to pass
pub none-weaker : {A : Type 0} (test other : A → Bool) → ((x : A) → test x ≡ false → other x ≡ false) → (xs : List A)
    → list_any test xs ≡ false → list_any other xs ≡ false
none-weaker test other weaker [] none = refl
none-weaker test other weaker (x ∷ xs) none =
    let parts = or_parts (test x) (list_any test xs) none in
    none-more other x xs (weaker x parts.0) (none-weaker test other weaker xs parts.1)

-- a test that fails doesn't pass
pub never : {P : Type 0} → false ≡ true → P
never e = absurd (false≢true e)
