-- A renaming under which no two names become one keeps all equalities that the walks ask for.
use Rattle.std.proofs.Common.{◌≡◌, ℕ, Bool, true, false, List, [], ◌∷◌, ◌++◌, Option, Some, refl, sym, ◌∙◌, ap, subst, ⊎_elim}
use Rattle.std.specs.Prelude.{map, flat_map, Contains, All}
use Rattle.std.specs.Option.{option_to_list}
use Rattle.std.proofs.lemmas.List.Elements.{Contains-append_left, Contains-append_right, Contains-append_cases, All-contains}
use Rattle.std.proofs.lemmas.List.Concat.{flat_map_single}
use Rattle.inst_walk.specs.Body.{BlockOutline, BodyOutline, block_names, block_all_names, body_names, targets_of, block_preorder}
use Rattle.inst_walk.specs.Calls.{callees_of, first_cycle_call}
use Rattle.inst_walk.specs.Outline.{Outline, values_of, parents_of, names_of, outline_renamed}
use Rattle.inst_walk.specs.Places.{place_of}
use Rattle.inst_walk.specs.RenamedBody.{body_outline_renamed, IsInjectiveOn, labels_of, label_names, value_names}
use Rattle.inst_walk.specs.Uses.{results_of, defined_names, first_use_break}
use Rattle.inst_walk.proofs.ListLemmas.{contains-head, contains-tail, contains-none, contains-cases, contains-flat_map, flat_map-within, filter_map-within}
use Rattle.inst_walk.proofs.Members.{target-named}
use Rattle.inst_walk.proofs.RenamedCalls.{first_call-viewed}
use Rattle.inst_walk.proofs.RenamedUses.{first_use-viewed}
use Rattle.inst_walk.proofs.RenamedWalks.{Renames, place-kept, order-viewed}

-- names are equal exactly where they are one
pub record IsIdentity {N : Type 0} (eq : N → N → Bool) : Type 0 where
  pub same : (a b : N) → eq a b ≡ true → a ≡ b
  pub itself : (a : N) → eq a a ≡ true

both-ways : (x y : Bool) → (x ≡ true → y ≡ true) → (y ≡ true → x ≡ true) → x ≡ y
both-ways true y there back = sym (there refl)
both-ways false true there back = back refl
both-ways false false there back = refl

module _ {N M : Type 0} (eq : N → N → Bool) (new_eq : M → M → Bool) (old : IsIdentity eq) (new : IsIdentity new_eq) (f : N → M) where
  pub equal-kept : (names : List N) → IsInjectiveOn f names → (a b : N) → Contains names a → Contains names b → new_eq (f a) (f b) ≡ eq a b
  equal-kept names injective a b i j =
      both-ways (new_eq (f a) (f b)) (eq a b)
      (λ h. subst (λ x. eq a x ≡ true) (injective a b i j (new.same (f a) (f b) h)) (old.itself a))
      (λ h. subst (λ x. new_eq (f a) (f x) ≡ true) (old.same a b h) (new.itself (f a)))

  pub renames : Renames f (outline_renamed f)
  renames = record { defines = λ o. refl; uses = λ o. refl; calls = λ o. refl; leads_to = λ o. refl }

  module _ (body : BodyOutline N) where
    label-among : (block : BlockOutline N) (o : Outline N) (a : N) → Contains body.blocks block → Contains block.insts o → Contains (labels_of o) a → Contains (label_names body) a
    label-among block o a b h i =
        Contains-append_right (block_names body) (flat_map (λ (b : BlockOutline N). flat_map labels_of b.insts) body.blocks) a
        (contains-flat_map (λ (b : BlockOutline N). flat_map labels_of b.insts) body.blocks block a b (contains-flat_map labels_of block.insts o a h i))

    value-among : (block : BlockOutline N) (o : Outline N) (a : N) → Contains body.blocks block → Contains block.insts o → Contains (values_of o.uses) a → Contains (value_names body) a
    value-among block o a b h i =
        Contains-append_right (defined_names body) (flat_map (λ (b : BlockOutline N). flat_map (λ (o : Outline N). values_of o.uses) b.insts) body.blocks) a
        (contains-flat_map (λ (b : BlockOutline N). flat_map (λ (o : Outline N). values_of o.uses) b.insts) body.blocks block a b (contains-flat_map (λ (o : Outline N). values_of o.uses) block.insts o a h i))

    block-among : (a : N) → Contains (block_names body) a → Contains (label_names body) a
    block-among a h = Contains-append_left (block_names body) (flat_map (λ (b : BlockOutline N). flat_map labels_of b.insts) body.blocks) a h

    target-among : (block : BlockOutline N) (a : N) → Contains body.blocks block → Contains (targets_of block) a → Contains (label_names body) a
    target-among block a b h =
        let t : (p : Outline N) × Contains block.insts p × Contains p.leads_to a = target-named block a h in
        label-among block t.0 a b t.1 (Contains-append_right (parents_of t.0.uses) t.0.leads_to a t.2)

    pub order-kept : IsInjectiveOn f (label_names body) → block_preorder new_eq (body_outline_renamed f body) ≡ block_preorder eq body
    order-kept injective =
        order-viewed f (outline_renamed f) renames eq new_eq body
        (λ block b x y i j. equal-kept (label_names body) injective x y (block-among x i) (target-among block y b j))

    pub first_use-kept : (order : List ℕ) → IsInjectiveOn f (label_names body) → IsInjectiveOn f (value_names body) → first_use_break new_eq (body_outline_renamed f body) order ≡ first_use_break eq body order
    first_use-kept order labels values =
        first_use-viewed eq new_eq f (outline_renamed f) renames body order (record {
          values = λ block o b h x y i j. equal-kept (value_names body) values x y
              (Contains-append_left (defined_names body) (flat_map (λ (b : BlockOutline N). flat_map (λ (o : Outline N). values_of o.uses) b.insts) body.blocks) x i)
              (value-among block o y b h j);
          parents = λ block o b h x y i j. equal-kept (label_names body) labels x y (block-among x i)
              (label-among block o y b h (Contains-append_left (parents_of o.uses) o.leads_to y j));
        })

-- each body may have a renaming of its own, where all rename the functions alike
pub first_call-kept : {N M B : Type 0} (eq : N → N → Bool) (new_eq : M → M → Bool) (old : IsIdentity eq) (new : IsIdentity new_eq) (shown : B → BodyOutline N) (f : B → N → M) (g : N → M) (names : List N) (bodies : List B) → IsInjectiveOn g (names ++ flat_map (λ b. callees_of (shown b)) bodies) → All (λ b. All (λ callee. f b callee ≡ g callee) (callees_of (shown b))) bodies → first_cycle_call new_eq (map g names) (map (λ b. body_outline_renamed (f b) (shown b)) bodies) ≡ first_cycle_call eq names (map shown bodies)
first_call-kept eq new_eq old new shown f g names bodies injective alike =
    first_call-viewed eq new_eq names (map g names) shown f (λ b. outline_renamed (f b)) (λ b. renames eq new_eq old new (f b)) bodies
    (λ b name h i.
    ap (place_of new_eq (map g names)) (All-contains (λ callee. f b callee ≡ g callee) (callees_of (shown b)) name (All-contains (λ b. All (λ callee. f b callee ≡ g callee) (callees_of (shown b))) bodies b alike h) i)
    ∙ place-kept eq new_eq g names name
    (λ a j. equal-kept eq new_eq old new g (names ++ flat_map (λ b. callees_of (shown b)) bodies) injective a name
    (Contains-append_left names (flat_map (λ b. callees_of (shown b)) bodies) a j)
    (Contains-append_right names (flat_map (λ b. callees_of (shown b)) bodies) name (contains-flat_map (λ b. callees_of (shown b)) bodies b name h i))))

pub injective-within : {N M : Type 0} (f : N → M) (names some : List N) → ((a : N) → Contains some a → Contains names a) → IsInjectiveOn f names → IsInjectiveOn f some
injective-within f names some within injective a b i j e = injective a b (within a i) (within b j) e

-- the names in their roles are among all names of the body
module _ {N : Type 0} where
  defines-named : (o : Outline N) (defined : Option N) (a : N) → o.defines ≡ defined → defined ≡ Some a → Contains (names_of o) a
  defines-named o defined a e f =
      Contains-append_left (option_to_list o.defines) (values_of o.uses ++ (parents_of o.uses ++ (option_to_list o.calls ++ (o.leads_to ++ o.others)))) a
      (subst (λ d. Contains (option_to_list d) a) (sym (e ∙ f)) (contains-head a []))

  value-named : (o : Outline N) (a : N) → Contains (values_of o.uses) a → Contains (names_of o) a
  value-named o a h =
      Contains-append_right (option_to_list o.defines) (values_of o.uses ++ (parents_of o.uses ++ (option_to_list o.calls ++ (o.leads_to ++ o.others)))) a
      (Contains-append_left (values_of o.uses) (parents_of o.uses ++ (option_to_list o.calls ++ (o.leads_to ++ o.others))) a h)

  below-values : (o : Outline N) (a : N) → Contains (parents_of o.uses ++ (option_to_list o.calls ++ (o.leads_to ++ o.others))) a → Contains (names_of o) a
  below-values o a h =
      Contains-append_right (option_to_list o.defines) (values_of o.uses ++ (parents_of o.uses ++ (option_to_list o.calls ++ (o.leads_to ++ o.others)))) a
      (Contains-append_right (values_of o.uses) (parents_of o.uses ++ (option_to_list o.calls ++ (o.leads_to ++ o.others))) a h)

  label-named : (o : Outline N) (a : N) → Contains (labels_of o) a → Contains (names_of o) a
  label-named o a h = below-values o a (⊎_elim
      (λ i. Contains-append_left (parents_of o.uses) (option_to_list o.calls ++ (o.leads_to ++ o.others)) a i)
      (λ i. Contains-append_right (parents_of o.uses) (option_to_list o.calls ++ (o.leads_to ++ o.others)) a
      (Contains-append_right (option_to_list o.calls) (o.leads_to ++ o.others) a (Contains-append_left o.leads_to o.others a i)))
      (Contains-append_cases (parents_of o.uses) o.leads_to a h))

  module _ (body : BodyOutline N) where
    in-blocks : (a : N) → Contains (flat_map block_all_names body.blocks) a → Contains (body_names body) a
    in-blocks a h = Contains-append_right body.params (flat_map block_all_names body.blocks) a h

    in-insts : (h : BlockOutline N → List N) (a : N) → ((block : BlockOutline N) → Contains (h block) a → Contains (flat_map names_of block.insts) a) → Contains (flat_map h body.blocks) a → Contains (body_names body) a
    in-insts h a each at =
        in-blocks a (flat_map-within h block_all_names body.blocks a (λ block b i. contains-tail block.name a (flat_map names_of block.insts) (each block i)) at)

    pub label_names-within : (a : N) → Contains (label_names body) a → Contains (body_names body) a
    label_names-within a h = ⊎_elim
        (λ i. in-blocks a (flat_map-within (λ (b : BlockOutline N). b.name ∷ []) block_all_names body.blocks a
        (λ block b j. ⊎_elim (λ e. subst (Contains (block_all_names block)) e (contains-head block.name (flat_map names_of block.insts))) (λ k. contains-none a _ k) (contains-cases block.name a [] j))
        (subst (λ l. Contains l a) (sym (flat_map_single (λ (b : BlockOutline N). b.name) body.blocks)) i)))
        (λ i. in-insts (λ (b : BlockOutline N). flat_map labels_of b.insts) a
        (λ block j. flat_map-within labels_of names_of block.insts a (λ o p k. label-named o a k) j) i)
        (Contains-append_cases (block_names body) (flat_map (λ (b : BlockOutline N). flat_map labels_of b.insts) body.blocks) a h)

    defined-within : (a : N) → Contains (defined_names body) a → Contains (body_names body) a
    defined-within a h = ⊎_elim
        (λ i. Contains-append_left body.params (flat_map block_all_names body.blocks) a i)
        (λ i. in-insts (λ (b : BlockOutline N). results_of b.insts) a
        (λ block j. filter_map-within (λ (o : Outline N). o.defines) names_of block.insts a (λ o e. defines-named o o.defines a refl e) j) i)
        (Contains-append_cases body.params (flat_map (λ (b : BlockOutline N). results_of b.insts) body.blocks) a h)

    pub value_names-within : (a : N) → Contains (value_names body) a → Contains (body_names body) a
    value_names-within a h = ⊎_elim
        (λ i. defined-within a i)
        (λ i. in-insts (λ (b : BlockOutline N). flat_map (λ (o : Outline N). values_of o.uses) b.insts) a
        (λ block j. flat_map-within (λ (o : Outline N). values_of o.uses) names_of block.insts a (λ o p k. value-named o a k) j) i)
        (Contains-append_cases (defined_names body) (flat_map (λ (b : BlockOutline N). flat_map (λ (o : Outline N). values_of o.uses) b.insts) body.blocks) a h)
