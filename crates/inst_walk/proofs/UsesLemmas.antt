-- What an instruction takes, and the names above it.
use Rattle.std.proofs.Common.{◌≡◌, ℕ, zero, suc, ◌+◌, ◌<◌, ◌≤◌, Bool, true, false, List, [], ◌∷◌, ◌++◌, Option, None, Some, length, get_or, take, drop, refl, sym, ◌∙◌, ap, arith, length-append}
use Rattle.std.specs.Prelude.{map, slice_get, ◌||◌}
use Rattle.std.specs.List.{list_any}
use Rattle.std.specs.Option.{option_map, option_to_list}
use Rattle.std.proofs.lemmas.List.Elements.{filter_map-append}
use Rattle.std.proofs.lemmas.List.Folds.{list_any_more, list_any_at}
use Rattle.std.proofs.lemmas.List.{take_all, take-append-drop}
use Rattle.std.proofs.lemmas.Option.{get_or_from_slice_get}
use Rattle.inst_walk.specs.Outline.{Outline, Uses, Plain, Phi, values_of, parents_of}
use Rattle.inst_walk.specs.Uses.{takings_of, results_of}
use Rattle.inst_walk.proofs.BlockGraph.{length-map, cons_option-nil}
use Rattle.inst_walk.proofs.FirstLemmas.{taken}

slice_get-map : {A B : Type 0} (f : A → B) (xs : List A) (i : ℕ) → slice_get (map f xs) i ≡ option_map f (slice_get xs i)
slice_get-map f [] i = refl
slice_get-map f (x ∷ xs) zero = refl
slice_get-map f (x ∷ xs) (suc i) = slice_get-map f xs i

module _ {N : Type 0} where
  entry-at : (entries : List (N × N)) (i : ℕ) (value : N) (parent : Option N) → slice_get (map (λ (e : N × N). e.0) entries) i ≡ Some value → parent ≡ slice_get (map (λ (e : N × N). e.1) entries) i → slice_get {X = N × Option N} (map (λ (e : N × N). (e.0, Some e.1)) entries) i ≡ Some (value, parent)
  entry-at [] i value parent v p = absurd cc
  entry-at (e ∷ entries) zero value parent v p =
      let same : e.0 ≡ value = cc in
      ap (λ x. Some (x, Some e.1)) same ∙ ap (λ o. Some (value, o)) (sym p)
  entry-at (e ∷ entries) (suc i) value parent v p = entry-at entries i value parent v p

  taking-at : (uses : Uses N) (i : ℕ) (value : N) (parent : Option N) → slice_get (values_of uses) i ≡ Some value → parent ≡ slice_get (parents_of uses) i → slice_get (takings_of uses) i ≡ Some (value, parent)
  taking-at (Plain values) i value parent v p =
      slice_get-map (λ x. (x, None)) values i ∙ ap (option_map (λ x. (x, None))) v ∙ ap (λ o. Some (value, o)) (sym p)
  taking-at (Phi entries) i value parent v p = entry-at entries i value parent v p

  pub length-takings : (uses : Uses N) → length (values_of uses) ≡ length (takings_of uses)
  length-takings (Plain values) = sym (length-map (λ x. (x, None)) values)
  length-takings (Phi entries) = length-map (λ (e : N × N). e.0) entries ∙ sym (length-map (λ (e : N × N). (e.0, Some e.1)) entries)

  module _ (test : N × Option N → Bool) (uses : Uses N) (i : ℕ) (value : N) (parent : Option N) (below : i < length (values_of uses)) (v : slice_get (values_of uses) i ≡ Some value) (p : parent ≡ slice_get (parents_of uses) i) where
    read : get_or (takings_of uses) i (value, parent) ≡ (value, parent)
    read = get_or_from_slice_get (takings_of uses) i (value, parent) (value, parent) (taking-at uses i value parent v p)

    inside : i < length (takings_of uses)
    inside = omega (arith, length-takings uses)

    pub none-more : test (value, parent) ≡ false → list_any test (take i (takings_of uses)) ≡ false → list_any test (take (i + 1) (takings_of uses)) ≡ false
    none-more fine was =
        list_any_more test (takings_of uses) i (value, parent) inside
        ∙ ap (λ b. b || test (get_or (takings_of uses) i (value, parent))) was ∙ ap test read ∙ fine

    pub one-found : test (value, parent) ≡ true → list_any test (takings_of uses) ≡ true
    one-found is = list_any_at test (takings_of uses) i (value, parent) inside (ap test read ∙ is)

  pub none-found : (test : N × Option N → Bool) (uses : Uses N) (i : ℕ) → length (values_of uses) ≤ i → list_any test (take i (takings_of uses)) ≡ false → list_any test (takings_of uses) ≡ false
  none-found test uses i all was =
      ap (list_any test) (sym (take_all i (takings_of uses) (omega (arith, length-takings uses)))) ∙ was

  -- the results of one more instruction
  module _ {I : Type 0} (outline : I → Outline N) (insts : List I) (i : ℕ) (inst : I) (below : i < length insts) (read : inst ≡ get_or insts i inst) where
    pub results-next : results_of (take (i + 1) (map outline insts)) ≡ results_of (take i (map outline insts)) ++ option_to_list (outline inst).defines
    results-next =
        ap results_of (taken outline insts i inst below read)
        ∙ filter_map-append (λ (o : Outline N). o.defines) (take i (map outline insts)) (outline inst ∷ [])
        ∙ ap (λ l. results_of (take i (map outline insts)) ++ l) (cons_option-nil (outline inst).defines)

    pub count-next : length (results_of (take (i + 1) (map outline insts))) ≡ length (results_of (take i (map outline insts))) + length (option_to_list (outline inst).defines)
    count-next = ap length results-next ∙ length-append (results_of (take i (map outline insts))) (option_to_list (outline inst).defines)

    -- there is room for the results of every instruction
    pub count-room : length (results_of (take i (map outline insts))) + length (option_to_list (outline inst).defines) ≤ length (results_of (map outline insts))
    count-room =
        let parts : length (results_of (map outline insts)) ≡ length (results_of (take (i + 1) (map outline insts))) + length (results_of (drop (i + 1) (map outline insts))) =
        ap (λ l. length (results_of l)) (sym (take-append-drop (i + 1) (map outline insts)))
        ∙ ap length (filter_map-append (λ (o : Outline N). o.defines) (take (i + 1) (map outline insts)) (drop (i + 1) (map outline insts)))
        ∙ length-append (results_of (take (i + 1) (map outline insts))) (results_of (drop (i + 1) (map outline insts))) in
        omega (arith, count-next, parts)
