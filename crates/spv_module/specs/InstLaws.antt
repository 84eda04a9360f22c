-- The laws of an instruction set for instructions of SPIR-V.
use Rattle.std.proofs.Common.{◌≡◌, ℕ, zero, suc, Bool, true, false, List, [], ◌∷◌, ◌++◌, All, Option, option_map, map, take, drop, slice_get, refl, ap, ap₂, sym, ◌∙◌}
use Rattle.std.specs.Option.{option_to_list}
use Rattle.std.proofs.lemmas.List.{map-append}
use Rattle.std.proofs.lemmas.List.Elements.{All-head, All-tail, All-nil, All-cons}
use Rattle.inst_walk.specs.Outline.{Outline, Uses, Plain, Phi, uses_renamed, outline_renamed, names_of, values_of, parents_of}
use Rattle.spv_module.specs.declared.inst.SpvInst.{SpvInst}
use Rattle.spv_module.specs.declared.roles.IdRoles.{IdRoles}
use Rattle.spv_module.specs.declared.roles.IdRoles.TheVariants.{Values, Call, Choices, Targets, Labels}
use Rattle.spv_module.specs.Insts.{where_so, list_where, pairs_of, unpaired, taken_by, called_by, targets_by, labels_by, replaced, outline_by, renamed_by, inst_outline, inst_renamed}
use Rattle.spv_module.specs.Roles.{has_result, has_result_type, roles_of}

where_so_renamed : (f : ℕ → ℕ) (b : Bool) (id : ℕ) → where_so b (replaced b f id) ≡ option_map f (where_so b id)
where_so_renamed f true id = refl
where_so_renamed f false id = refl

list_where_renamed : (f : ℕ → ℕ) (b : Bool) (id : ℕ) → list_where b (replaced b f id) ≡ map f (list_where b id)
list_where_renamed f true id = refl
list_where_renamed f false id = refl

pairs_renamed : (f : ℕ → ℕ) (ids : List ℕ) → pairs_of (map f ids) ≡ map (λ e. (f e.0, f e.1)) (pairs_of ids)
pairs_renamed f [] = refl
pairs_renamed f (id ∷ []) = refl
pairs_renamed f (value ∷ parent ∷ ids) = ap (λ rest. (f value, f parent) ∷ rest) (pairs_renamed f ids)

unpaired_renamed : (f : ℕ → ℕ) (ids : List ℕ) → unpaired (map f ids) ≡ map f (unpaired ids)
unpaired_renamed f [] = refl
unpaired_renamed f (id ∷ []) = refl
unpaired_renamed f (value ∷ parent ∷ ids) = unpaired_renamed f ids

map_drop : (f : ℕ → ℕ) (n : ℕ) (ids : List ℕ) → drop n (map f ids) ≡ map f (drop n ids)
map_drop f zero ids = refl
map_drop f (suc n) [] = refl
map_drop f (suc n) (id ∷ ids) = map_drop f n ids

map_take : (f : ℕ → ℕ) (n : ℕ) (ids : List ℕ) → take n (map f ids) ≡ map f (take n ids)
map_take f zero ids = refl
map_take f (suc n) [] = refl
map_take f (suc n) (id ∷ ids) = ap (λ rest. f id ∷ rest) (map_take f n ids)

taken_renamed : (f : ℕ → ℕ) (roles : IdRoles) (ids : List ℕ) → taken_by roles (map f ids) ≡ uses_renamed f (taken_by roles ids)
taken_renamed f Values ids = refl
taken_renamed f Call ids = ap Plain (map_drop f 1 ids)
taken_renamed f Choices ids = ap Phi (pairs_renamed f ids)
taken_renamed f (Targets count) ids = ap Plain (map_take f count ids)
taken_renamed f Labels ids = refl

first_renamed : (f : ℕ → ℕ) (ids : List ℕ) → slice_get (map f ids) 0 ≡ option_map f (slice_get ids 0)
first_renamed f [] = refl
first_renamed f (id ∷ ids) = refl

called_renamed : (f : ℕ → ℕ) (roles : IdRoles) (ids : List ℕ) → called_by roles (map f ids) ≡ option_map f (called_by roles ids)
called_renamed f Values ids = refl
called_renamed f Call ids = first_renamed f ids
called_renamed f Choices ids = refl
called_renamed f (Targets count) ids = refl
called_renamed f Labels ids = refl

targets_renamed : (f : ℕ → ℕ) (roles : IdRoles) (ids : List ℕ) → targets_by roles (map f ids) ≡ map f (targets_by roles ids)
targets_renamed f Values ids = refl
targets_renamed f Call ids = refl
targets_renamed f Choices ids = refl
targets_renamed f (Targets count) ids = map_drop f count ids
targets_renamed f Labels ids = refl

labels_renamed : (f : ℕ → ℕ) (roles : IdRoles) (ids : List ℕ) → labels_by roles (map f ids) ≡ map f (labels_by roles ids)
labels_renamed f Values ids = refl
labels_renamed f Call ids = refl
labels_renamed f Choices ids = unpaired_renamed f ids
labels_renamed f (Targets count) ids = refl
labels_renamed f Labels ids = refl

abbrev outlined : Option ℕ → Uses ℕ → Option ℕ → List ℕ → List ℕ → Outline ℕ
outlined defines uses calls leads_to others = record { defines = defines; uses = uses; calls = calls; leads_to = leads_to; others = others }

same_outline : (d d' : Option ℕ) (u u' : Uses ℕ) (c c' : Option ℕ) (l l' o o' : List ℕ) → d ≡ d' → u ≡ u' → c ≡ c' → l ≡ l' → o ≡ o' → outlined d u c l o ≡ outlined d' u' c' l' o'
same_outline d d' u u' c c' l l' o o' p q r s t =
    ap (λ x. outlined x u c l o) p ∙ (ap (λ x. outlined d' x c l o) q ∙ (ap (λ x. outlined d' u' x l o) r ∙ (ap (λ x. outlined d' u' c' x o) s ∙ ap (outlined d' u' c' l') t)))

outline_by_renamed : (f : ℕ → ℕ) (typed defining : Bool) (roles : IdRoles) (inst : SpvInst) → outline_by typed defining roles (renamed_by typed defining f inst) ≡ outline_renamed f (outline_by typed defining roles inst)
outline_by_renamed f typed defining roles inst =
    let ids = inst.operands.ids in
    same_outline _ _ _ _ _ _ _ _ _ _ (where_so_renamed f defining inst.result) (taken_renamed f roles ids) (called_renamed f roles ids) (targets_renamed f roles ids)
    (ap₂ (λ (xs ys : List ℕ). xs ++ ys) (list_where_renamed f typed inst.ty) (labels_renamed f roles ids) ∙ sym (map-append f (list_where typed inst.ty) (labels_by roles ids)))

pub outline_of_renamed : (f : ℕ → ℕ) (inst : SpvInst) → inst_outline (inst_renamed f inst) ≡ outline_renamed f (inst_outline inst)
outline_of_renamed f inst = outline_by_renamed f (has_result_type inst.op) (has_result inst.op) (roles_of inst.op) inst

abbrev made : SpvInst → ℕ → ℕ → List ℕ → SpvInst
made inst ty result ids = record { op = inst.op; ty = ty; result = result; operands = record { ids = ids; words = inst.operands.words }; place = inst.place }

same_made : (inst : SpvInst) (ty ty' result result' : ℕ) (ids ids' : List ℕ) → ty ≡ ty' → result ≡ result' → ids ≡ ids' → made inst ty result ids ≡ made inst ty' result' ids'
same_made inst ty ty' result result' ids ids' p q r =
    ap (λ x. made inst x result ids) p ∙ (ap (λ x. made inst ty' x ids) q ∙ ap (made inst ty' result') r)

replaced_twice : (f g : ℕ → ℕ) (b : Bool) (id : ℕ) → replaced b g (replaced b f id) ≡ replaced b (λ x. g (f x)) id
replaced_twice f g true id = refl
replaced_twice f g false id = refl

map_twice : (f g : ℕ → ℕ) (ids : List ℕ) → map g (map f ids) ≡ map (λ x. g (f x)) ids
map_twice f g [] = refl
map_twice f g (id ∷ ids) = ap (λ rest. g (f id) ∷ rest) (map_twice f g ids)

pub inst_renamed_twice : (f g : ℕ → ℕ) (inst : SpvInst) → inst_renamed g (inst_renamed f inst) ≡ inst_renamed (λ x. g (f x)) inst
inst_renamed_twice f g inst =
    same_made inst _ _ _ _ _ _ (replaced_twice f g (has_result_type inst.op) inst.ty) (replaced_twice f g (has_result inst.op) inst.result) (map_twice f g inst.operands.ids)

replaced_same : (b : Bool) (id : ℕ) → replaced b (λ x. x) id ≡ id
replaced_same true id = refl
replaced_same false id = refl

map_same : (ids : List ℕ) → map (λ x. x) ids ≡ ids
map_same [] = refl
map_same (id ∷ ids) = ap (λ rest. id ∷ rest) (map_same ids)

pub inst_renamed_same : (inst : SpvInst) → inst_renamed (λ x. x) inst ≡ inst
inst_renamed_same inst =
    same_made inst _ _ _ _ _ _ (replaced_same (has_result_type inst.op) inst.ty) (replaced_same (has_result inst.op) inst.result) (map_same inst.operands.ids)

All-front : {X : Type 0} (P : X → Type 0) (xs ys : List X) → All P (xs ++ ys) → All P xs
All-front P [] ys h = All-nil P
All-front P (x ∷ xs) ys h = All-cons P x xs (All-head P x (xs ++ ys) h) (All-front P xs ys (All-tail P x (xs ++ ys) h))

All-back : {X : Type 0} (P : X → Type 0) (xs ys : List X) → All P (xs ++ ys) → All P ys
All-back P [] ys h = h
All-back P (x ∷ xs) ys h = All-back P xs ys (All-tail P x (xs ++ ys) h)

module _ (f g : ℕ → ℕ) where
  abbrev Agrees : ℕ → Type 0
  Agrees name = f name ≡ g name

  map_alike : (ids : List ℕ) → All Agrees ids → map f ids ≡ map g ids
  map_alike [] h = refl
  map_alike (id ∷ ids) h = ap₂ (λ (x : ℕ) (xs : List ℕ). x ∷ xs) (All-head Agrees id ids h) (map_alike ids (All-tail Agrees id ids h))

  call_alike : (ids : List ℕ) → All Agrees (drop 1 ids) → All Agrees (option_to_list (slice_get ids 0)) → map f ids ≡ map g ids
  call_alike [] values called = refl
  call_alike (id ∷ ids) values called = ap₂ (λ (x : ℕ) (xs : List ℕ). x ∷ xs) (All-head Agrees id [] called) (map_alike ids values)

  pairs_alike : (ids : List ℕ) → All Agrees (map (λ e. e.0) (pairs_of ids)) → All Agrees (map (λ e. e.1) (pairs_of ids)) → All Agrees (unpaired ids) → map f ids ≡ map g ids
  pairs_alike [] values parents left = refl
  pairs_alike (id ∷ []) values parents left = map_alike (id ∷ []) left
  pairs_alike (value ∷ parent ∷ ids) values parents left =
      let values_behind = map (λ (e : ℕ × ℕ). e.0) (pairs_of ids) in
      let parents_behind = map (λ (e : ℕ × ℕ). e.1) (pairs_of ids) in
      ap₂ (λ (x : ℕ) (xs : List ℕ). x ∷ xs) (All-head Agrees value values_behind values)
      (ap₂ (λ (x : ℕ) (xs : List ℕ). x ∷ xs) (All-head Agrees parent parents_behind parents)
      (pairs_alike ids (All-tail Agrees value values_behind values) (All-tail Agrees parent parents_behind parents) left))

  split_alike : (n : ℕ) (ids : List ℕ) → All Agrees (take n ids) → All Agrees (drop n ids) → map f ids ≡ map g ids
  split_alike zero ids values targets = map_alike ids targets
  split_alike (suc n) [] values targets = refl
  split_alike (suc n) (id ∷ ids) values targets =
      ap₂ (λ (x : ℕ) (xs : List ℕ). x ∷ xs) (All-head Agrees id (take n ids) values) (split_alike n ids (All-tail Agrees id (take n ids) values) targets)

  ids_alike : (roles : IdRoles) (ids : List ℕ) → All Agrees (values_of (taken_by roles ids)) → All Agrees (parents_of (taken_by roles ids)) → All Agrees (option_to_list (called_by roles ids)) → All Agrees (targets_by roles ids) → All Agrees (labels_by roles ids) → map f ids ≡ map g ids
  ids_alike Values ids values parents called targets labels = map_alike ids values
  ids_alike Call ids values parents called targets labels = call_alike ids values called
  ids_alike Choices ids values parents called targets labels = pairs_alike ids values parents labels
  ids_alike (Targets count) ids values parents called targets labels = split_alike count ids values targets
  ids_alike Labels ids values parents called targets labels = map_alike ids labels

  replaced_alike : (b : Bool) (id : ℕ) → All Agrees (list_where b id) → replaced b f id ≡ replaced b g id
  replaced_alike true id h = All-head Agrees id [] h
  replaced_alike false id h = refl

  defined_alike : (b : Bool) (id : ℕ) → All Agrees (option_to_list (where_so b id)) → replaced b f id ≡ replaced b g id
  defined_alike true id h = All-head Agrees id [] h
  defined_alike false id h = refl

  renamed_by_alike : (typed defining : Bool) (roles : IdRoles) (inst : SpvInst) → All Agrees (names_of (outline_by typed defining roles inst)) → renamed_by typed defining f inst ≡ renamed_by typed defining g inst
  renamed_by_alike typed defining roles inst h =
      let ids = inst.operands.ids in
      let o = outline_by typed defining roles inst in
      let behind_defines = All-back Agrees (option_to_list o.defines) _ h in
      let behind_values = All-back Agrees (values_of o.uses) _ behind_defines in
      let behind_uses = All-back Agrees (parents_of o.uses) _ behind_values in
      let behind_calls = All-back Agrees (option_to_list o.calls) _ behind_uses in
      let others = All-back Agrees o.leads_to o.others behind_calls in
      same_made inst _ _ _ _ _ _
      (replaced_alike typed inst.ty (All-front Agrees (list_where typed inst.ty) (labels_by roles ids) others))
      (defined_alike defining inst.result (All-front Agrees (option_to_list o.defines) _ h))
      (ids_alike roles ids (All-front Agrees (values_of o.uses) _ behind_defines) (All-front Agrees (parents_of o.uses) _ behind_values)
      (All-front Agrees (option_to_list o.calls) _ behind_uses) (All-front Agrees o.leads_to o.others behind_calls)
      (All-back Agrees (list_where typed inst.ty) (labels_by roles ids) others))

pub inst_renamed_alike : (f g : ℕ → ℕ) (inst : SpvInst) → All (λ name. f name ≡ g name) (names_of (inst_outline inst)) → inst_renamed f inst ≡ inst_renamed g inst
inst_renamed_alike f g inst h = renamed_by_alike f g (has_result_type inst.op) (has_result inst.op) (roles_of inst.op) inst h
