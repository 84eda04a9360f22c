-- The names of a canonical form are numbered.
use Rattle.std.proofs.Common.{◌≡◌, ℕ, suc, ◌+◌, ◌<◌, Bool, true, false, ◌&&◌, nat_eq, List, [], ◌∷◌, ◌++◌, All, Option, None, Some, map, flat_map, length, nat_le, refl, sym, ◌∙◌, ap, ap₂, subst, arith, unwrap_or, cond}
use Rattle.std.specs.Option.{option_map}
use Rattle.std.proofs.lemmas.Bool.{eqb-true}
use Rattle.std.proofs.lemmas.List.{length-map, map-append}
use Rattle.std.proofs.lemmas.List.Elements.{All-nil, All-cons}
use Rattle.std.specs.List.{range_with_len}
use Rattle.inst_walk.specs.Places.{place_of}
use Rattle.kernel_tree.specs.declared.kernel.Kernel.{Kernel}
use Rattle.kernel_tree.specs.declared.kernel.KernelInst.{KernelInst}
use Rattle.kernel_tree.specs.declared.kernel.KernelInst.TheVariants.{Add, Load, Store}
use Rattle.kernel_tree.specs.declared.kernel.KernelParam.{KernelParam}
use Rattle.kernel_tree.specs.declared.names.Definition.{Definition}
use Rattle.kernel_tree.specs.declared.names.Use.{Use}
use Rattle.kernel_tree.specs.Canonical.{aligned, canonical, inst_numbered, numbered, numbered_name, numbers_defined, param_numbered, with_targets}
use Rattle.kernel_tree.specs.Covered.{all_first, are_distinct, is_at, is_covered}
use Rattle.kernel_tree.specs.Names.{block_definition, defined_above, defined_by, definitions, param_definition, used_by, uses}
use Rattle.kernel_tree.specs.Numbered.{IsNumbered, definition_count, number_defined, number_used}
use Rattle.kernel_tree.proofs.AlignedNames.{definitions-aligned}

pub and-left : (a b : Bool) → (a && b) ≡ true → a ≡ true
and-left true b h = refl
and-left false b h = h

pub and-right : (a b : Bool) → (a && b) ≡ true → b ≡ true
and-right true b h = h
and-right false b h = absurd cc

-- the number of a name in the canonical form
abbrev pub number_by : List ℕ → ℕ → ℕ
number_by numbers n = 1 + unwrap_or (place_of nat_eq numbers n) 0

at-place : (at : ℕ) (place : Option ℕ) → is_at at place ≡ true → unwrap_or place 0 ≡ at
at-place at None h = absurd cc
at-place at (Some place) h = eqb-true place at h

up-one : (at : ℕ) → 1 + (at + 1) ≡ (1 + at) + 1
up-one at = omega arith

-- names that each stand for the first time are numbered by their places
pub first-numbered : (all : List ℕ) (at : ℕ) (numbers : List ℕ) → all_first all at numbers ≡ true → map (number_by all) numbers ≡ range_with_len (1 + at) (length numbers)
first-numbered all at [] h = refl
first-numbered all at (n ∷ numbers) h =
    ap₂ (λ (x : ℕ) (xs : List ℕ). x ∷ xs)
    (ap (λ (x : ℕ). 1 + x) (at-place at (place_of nat_eq all n) (and-left _ _ h)))
    (first-numbered all (at + 1) numbers (and-right _ _ h) ∙ ap (λ (a : ℕ). range_with_len a (length numbers)) (up-one at))

module _ (numbers : List ℕ) where
  abbrev pub definition_numbered : Definition → Definition
  definition_numbered d = record { name = numbered_name numbers d.name; value_type = d.value_type }

  abbrev use_numbered : Use → Use
  use_numbered u = record { name = numbered_name numbers u.name; value_type = u.value_type }

  params-numbered : (params : List KernelParam) → map param_definition (map (param_numbered numbers) params) ≡ map definition_numbered (map param_definition params)
  params-numbered [] = refl
  params-numbered (param ∷ params) = ap (λ (ds : List Definition). param_definition (param_numbered numbers param) ∷ ds) (params-numbered params)

  results-numbered : (insts : List KernelInst) → flat_map defined_by (map (inst_numbered numbers) insts) ≡ map definition_numbered (flat_map defined_by insts)
  results-numbered [] = refl
  results-numbered (Add sum left right ∷ insts) = ap (λ (ds : List Definition). defined_by (inst_numbered numbers (Add sum left right)) ++ ds) (results-numbered insts)
  results-numbered (Load loaded pointer is_aligned ∷ insts) = ap (λ (ds : List Definition). defined_by (inst_numbered numbers (Load loaded pointer is_aligned)) ++ ds) (results-numbered insts)
  results-numbered (Store value pointer is_aligned ∷ insts) = results-numbered insts

  uses-numbered : (insts : List KernelInst) → flat_map used_by (map (inst_numbered numbers) insts) ≡ map use_numbered (flat_map used_by insts)
  uses-numbered [] = refl
  uses-numbered (Add sum left right ∷ insts) = ap (λ (us : List Use). used_by (inst_numbered numbers (Add sum left right)) ++ us) (uses-numbered insts)
  uses-numbered (Load loaded pointer is_aligned ∷ insts) = ap (λ (us : List Use). used_by (inst_numbered numbers (Load loaded pointer is_aligned)) ++ us) (uses-numbered insts)
  uses-numbered (Store value pointer is_aligned ∷ insts) = ap (λ (us : List Use). used_by (inst_numbered numbers (Store value pointer is_aligned)) ++ us) (uses-numbered insts)

-- the definitions of a numbered form
pub definitions-numbered : (kernel : Kernel) → definitions (numbered kernel) ≡ map (definition_numbered (numbers_defined kernel)) (definitions kernel)
definitions-numbered kernel =
    let ns = numbers_defined kernel in
    ap₂ (λ (ps : List Definition) (rs : List Definition). (ps ++ (block_definition (numbered_name ns kernel.block) ∷ [])) ++ rs) (params-numbered ns kernel.params) (results-numbered ns kernel.insts)
    ∙ sym (map-append (definition_numbered ns) (defined_above kernel) (flat_map defined_by kernel.insts)
    ∙ ap (λ (ds : List Definition). ds ++ map (definition_numbered ns) (flat_map defined_by kernel.insts)) (map-append (definition_numbered ns) (map param_definition kernel.params) (block_definition kernel.block ∷ [])))

map-then : (numbers : List ℕ) (ds : List Definition) → map number_defined (map (definition_numbered numbers) ds) ≡ map (number_by numbers) (map number_defined ds)
map-then numbers [] = refl
map-then numbers (d ∷ ds) = ap (λ (xs : List ℕ). number_by numbers (number_defined d) ∷ xs) (map-then numbers ds)

pub place-below : (numbers : List ℕ) (n place : ℕ) → place_of nat_eq numbers n ≡ Some place → place < length numbers
place-below [] n place h = absurd cc
place-below (m ∷ numbers) n place h = below-case (nat_eq m n) numbers n place (place_of nat_eq numbers n) refl (place-below numbers n) h
  where
    below-case : (b : Bool) (numbers : List ℕ) (n place : ℕ) (rest : Option ℕ) → place_of nat_eq numbers n ≡ rest
        → ((p : ℕ) → place_of nat_eq numbers n ≡ Some p → p < length numbers)
        → (cond b (Some 0) (option_map suc rest)) ≡ Some place → place < suc (length numbers)
    below-case true numbers n place rest is up h = let e : 0 ≡ place = cc in omega (arith, e)
    below-case false numbers n place None is up h = absurd cc
    below-case false numbers n place (Some p) is up h = let e : suc p ≡ place = cc in let lt = up p is in omega (arith, e, lt)

pub number-below : (numbers : List ℕ) (n : ℕ) (place : Option ℕ) → place_of nat_eq numbers n ≡ place → 0 < length numbers → 1 + unwrap_or place 0 < length numbers + 1
number-below numbers n None is some = omega (arith, some)
number-below numbers n (Some place) is some = let lt = place-below numbers n place is in omega (arith, lt)

-- a name of the canonical form is that of a definition
pub uses-below : (numbers : List ℕ) (us : List Use) → 0 < length numbers → All (λ used. number_used used < length numbers + 1) (map (use_numbered numbers) us)
uses-below numbers [] some = All-nil (λ used. number_used used < length numbers + 1)
uses-below numbers (u ∷ us) some =
    All-cons (λ used. number_used used < length numbers + 1) (use_numbered numbers u) (map (use_numbered numbers) us)
    (number-below numbers u.name.number (place_of nat_eq numbers u.name.number) refl some) (uses-below numbers us some)

pub some-defined : (kernel : Kernel) → 0 < definition_count kernel
some-defined kernel = longer (map param_definition kernel.params) (block_definition kernel.block) (flat_map defined_by kernel.insts)
  where
    longer : (before : List Definition) (d : Definition) (behind : List Definition) → 0 < length ((before ++ (d ∷ [])) ++ behind)
    longer [] d behind = omega arith
    longer (b ∷ before) d behind = omega arith

-- a kernel in which no name is defined twice has a numbered form
pub numbered-is : (kernel : Kernel) → are_distinct (numbers_defined kernel) ≡ true → IsNumbered (numbered kernel)
numbered-is kernel distinct =
    let ns = numbers_defined kernel in
    let counted : length ns ≡ definition_count kernel = length-map (definitions kernel) number_defined in
    let count : definition_count (numbered kernel) ≡ length ns = ap length (definitions-numbered kernel) ∙ length-map (definitions kernel) (definition_numbered ns) ∙ sym counted in
    let some : 0 < length ns = subst (λ n. 0 < n) (sym counted) (some-defined kernel) in
    record {
      defined = ap (λ (ds : List Definition). map number_defined ds) (definitions-numbered kernel) ∙ map-then ns (definitions kernel) ∙ first-numbered ns 0 ns distinct ∙ ap (λ (n : ℕ). range_with_len 1 n) (sym count);
      used = subst (λ (us : List Use). All (λ used. number_used used < definition_count (numbered kernel) + 1) us) (sym (uses-numbered ns kernel.insts))
          (subst (λ (n : ℕ). All (λ used. number_used used < n + 1) (map (use_numbered ns) (uses kernel))) (sym count) (uses-below ns (uses kernel) some));
    }

pub canonical-numbered : (kernel : Kernel) → are_distinct (numbers_defined kernel) ≡ true → IsNumbered (canonical kernel)
canonical-numbered kernel distinct =
    numbered-is (aligned (with_targets kernel)) (subst (λ (ds : List Definition). are_distinct (map number_defined ds) ≡ true) (sym (definitions-aligned kernel)) distinct)

-- no name is defined twice in a kernel of the covered subset
pub covered-distinct : (kernel : Kernel) → is_covered kernel ≡ true → are_distinct (numbers_defined kernel) ≡ true
covered-distinct kernel covered =
    and-left (are_distinct (numbers_defined kernel)) _ (and-right (nat_le (length kernel.params) 255) _ covered)
