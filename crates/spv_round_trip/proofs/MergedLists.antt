-- What is read of two lists of declarations that are merged.
use Rattle.std.proofs.Common.{◌≡◌, Bool, true, false, List, [], ◌∷◌, ◌++◌, map, Option, refl, ap, ap₂}
use Rattle.std.specs.Prelude.{nat_lt, if◌then◌else◌}
use Rattle.std.specs.Option.{option_to_list}
use Rattle.spv_codec.specs.declared.module.RawInst.{RawInst}
use Rattle.spv_module.specs.declared.declared.Declared.{Declared}
use Rattle.spv_module.specs.Sections.{merged, put_before, inst_of}
use Rattle.spv_build.specs.Items.{items_of}
use Rattle.spv_round_trip.proofs.Lists.{Each, IsSilent, items-none}
use Rattle.spv_round_trip.proofs.SectionParts.{insts-each}

module _ {A : Type 0} (g : RawInst → Option A) where
  abbrev pub IsSilentDeclared : Declared → Type 0
  IsSilentDeclared declared = IsSilent g declared.inst

  put-first : (first : Declared) (rest : List Declared → List Declared) (items : List A)
      → ((zs : List Declared) → Each IsSilentDeclared zs → items_of g (map inst_of (rest zs)) ≡ items)
      → (ys : List Declared) → Each IsSilentDeclared ys → items_of g (map inst_of (put_before first rest ys)) ≡ option_to_list (g first.inst) ++ items
  put-first first rest items more [] silent = ap (λ xs. option_to_list (g first.inst) ++ xs) (more [] silent)
  put-first first rest items more (other ∷ others) silent = by_test (nat_lt other.id first.id) (put-first first rest items more others silent.1)
    where
      by_test : (b : Bool) → items_of g (map inst_of (put_before first rest others)) ≡ option_to_list (g first.inst) ++ items
          → items_of g (map inst_of (if b then other ∷ put_before first rest others else first ∷ rest (other ∷ others))) ≡ option_to_list (g first.inst) ++ items
      by_test true behind = ap₂ (λ o xs. option_to_list o ++ xs) silent.0 behind
      by_test false behind = ap (λ xs. option_to_list (g first.inst) ++ xs) (more (other ∷ others) silent)

  -- where the second list is silent, the first one is read
  pub merged-first : (xs ys : List Declared) → Each IsSilentDeclared ys → items_of g (map inst_of (merged xs ys)) ≡ items_of g (map inst_of xs)
  merged-first [] ys silent = items-none g (map inst_of ys) (insts-each (IsSilent g) ys silent)
  merged-first (x ∷ xs) ys silent = put-first x (merged xs) (items_of g (map inst_of xs)) (λ zs each. merged-first xs zs each) ys silent

  put-second : (first : Declared) (rest : List Declared → List Declared) → IsSilentDeclared first
      → ((zs : List Declared) → items_of g (map inst_of (rest zs)) ≡ items_of g (map inst_of zs))
      → (ys : List Declared) → items_of g (map inst_of (put_before first rest ys)) ≡ items_of g (map inst_of ys)
  put-second first rest silent more [] = ap₂ (λ o xs. option_to_list o ++ xs) silent (more [])
  put-second first rest silent more (other ∷ others) = by_test (nat_lt other.id first.id) (put-second first rest silent more others)
    where
      by_test : (b : Bool) → items_of g (map inst_of (put_before first rest others)) ≡ items_of g (map inst_of others)
          → items_of g (map inst_of (if b then other ∷ put_before first rest others else first ∷ rest (other ∷ others))) ≡ items_of g (map inst_of (other ∷ others))
      by_test true behind = ap (λ xs. option_to_list (g other.inst) ++ xs) behind
      by_test false behind = ap₂ (λ o xs. option_to_list o ++ xs) silent (more (other ∷ others))

  -- where the first list is silent, the second one is read
  pub merged-second : (xs ys : List Declared) → Each IsSilentDeclared xs → items_of g (map inst_of (merged xs ys)) ≡ items_of g (map inst_of ys)
  merged-second [] ys silent = refl
  merged-second (x ∷ xs) ys silent = put-second x (merged xs) silent.0 (λ zs. merged-second xs zs silent.1) ys
