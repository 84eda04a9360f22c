-- Lemmas for the laws of an instruction set whose instructions hold optional names and lists of names.
use Rattle.std.specs.Prelude.{◌≡◌, List, [], ◌∷◌, ◌++◌, Option, None, Some, map, All, refl, slice_index_or}
use Rattle.std.specs.Option.{option_map, option_to_list}
use Rattle.std.proofs.Common.{◌∙◌, ap, lit<}
use Rattle.std.proofs.lemmas.List.Elements.{All-head, All-tail, All-contains, Contains-get_or, Contains-append_left, Contains-append_right}
use Rattle.inst_walk.specs.Outline.{Outline, values_of, parents_of, names_of}

-- what is made of three parts is alike where the parts are
pub alike_3 : {A B C D : Type 0} (made : A → B → C → D) {a x : A} {b y : B} {c z : C} → a ≡ x → b ≡ y → c ≡ z → made a b c ≡ made x y z
alike_3 made {x = x} {b = b} {y = y} {c = c} p q r = ap (λ v. made v b c) p ∙ (ap (λ v. made x v c) q ∙ ap (made x y) r)

module _ {N : Type 0} (P : N → Type 0) where
  All-left : (xs ys : List N) → All P (xs ++ ys) → All P xs
  All-left xs ys all k d below =
      All-contains P (xs ++ ys) (slice_index_or xs k d) all (Contains-append_left xs ys (slice_index_or xs k d) (Contains-get_or xs k d below))

  All-right : (xs ys : List N) → All P (xs ++ ys) → All P ys
  All-right xs ys all k d below =
      All-contains P (xs ++ ys) (slice_index_or ys k d) all (Contains-append_right xs ys (slice_index_or ys k d) (Contains-get_or ys k d below))

  -- what holds of each name of an instruction, role by role
  pub record InEachRole (o : Outline N) : Type 0 where
    pub defines : All P (option_to_list o.defines)
    pub values : All P (values_of o.uses)
    pub parents : All P (parents_of o.uses)
    pub calls : All P (option_to_list o.calls)
    pub leads_to : All P o.leads_to
    pub others : All P o.others

  pub in_each_role : (o : Outline N) → All P (names_of o) → InEachRole o
  in_each_role o all =
      let behind = All-right (option_to_list o.defines) (values_of o.uses ++ (parents_of o.uses ++ (option_to_list o.calls ++ (o.leads_to ++ o.others)))) all in
      let behind_values = All-right (values_of o.uses) (parents_of o.uses ++ (option_to_list o.calls ++ (o.leads_to ++ o.others))) behind in
      let behind_parents = All-right (parents_of o.uses) (option_to_list o.calls ++ (o.leads_to ++ o.others)) behind_values in
      let behind_calls = All-right (option_to_list o.calls) (o.leads_to ++ o.others) behind_parents in
      record {
        defines = All-left (option_to_list o.defines) (values_of o.uses ++ (parents_of o.uses ++ (option_to_list o.calls ++ (o.leads_to ++ o.others)))) all;
        values = All-left (values_of o.uses) (parents_of o.uses ++ (option_to_list o.calls ++ (o.leads_to ++ o.others))) behind;
        parents = All-left (parents_of o.uses) (option_to_list o.calls ++ (o.leads_to ++ o.others)) behind_values;
        calls = All-left (option_to_list o.calls) (o.leads_to ++ o.others) behind_parents;
        leads_to = All-left o.leads_to o.others behind_calls;
        others = All-right o.leads_to o.others behind_calls;
      }

module _ {N M K : Type 0} (f : N → M) (g : M → K) where
  pub option_twice : (o : Option N) → option_map g (option_map f o) ≡ option_map (λ name. g (f name)) o
  option_twice None = refl
  option_twice (Some name) = refl

  pub list_twice : (names : List N) → map g (map f names) ≡ map (λ name. g (f name)) names
  list_twice [] = refl
  list_twice (name ∷ names) = ap (λ rest. g (f name) ∷ rest) (list_twice names)

module _ {N : Type 0} where
  pub option_same : (o : Option N) → option_map (λ name. name) o ≡ o
  option_same None = refl
  option_same (Some name) = refl

  pub list_same : (names : List N) → map (λ name. name) names ≡ names
  list_same [] = refl
  list_same (name ∷ names) = ap (λ rest. name ∷ rest) (list_same names)

module _ {N M : Type 0} (f g : N → M) where
  pub option_alike : (o : Option N) → All (λ name. f name ≡ g name) (option_to_list o) → option_map f o ≡ option_map g o
  option_alike None all = refl
  option_alike (Some name) all = ap Some (all 0 name (lit< tt))

  pub list_alike : (names : List N) → All (λ name. f name ≡ g name) names → map f names ≡ map g names
  list_alike [] all = refl
  list_alike (name ∷ names) all =
      ap (λ n. n ∷ map f names) (All-head (λ name. f name ≡ g name) name names all)
      ∙ ap (λ rest. g name ∷ rest) (list_alike names (All-tail (λ name. f name ≡ g name) name names all))
