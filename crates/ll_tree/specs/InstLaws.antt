-- The laws of an instruction set for instructions of LLVM.
use Rattle.std.proofs.Common.{◌≡◌, ℕ, List, [], All, Option, None, Some, option_map, refl, ap, ap₂, ◌∙◌}
use Rattle.std.specs.Option.{option_to_list}
use Rattle.std.proofs.lemmas.List.Elements.{All-head}
use Rattle.inst_walk.specs.Outline.{Outline, Uses, outline_renamed, names_of, values_of, parents_of}
use Rattle.ll_tree.specs.declared.inst.Inst.{Inst}
use Rattle.ll_tree.specs.declared.name.Name.{Name}
use Rattle.ll_tree.specs.declared.op.Op.{Op}
use Rattle.ll_tree.specs.Insts.{inst_outline, inst_renamed}
use Rattle.ll_tree.specs.Names.{name_renamed, number_of}
use Rattle.ll_tree.specs.OpLaws.{takes_renamed, callee_renamed, targets_renamed, sources_renamed, renamed_op_twice, renamed_op_same, renamed_op_alike}
use Rattle.ll_tree.specs.ValueLaws.{All-front, All-back, Agrees}

defined_renamed : (f : ℕ → ℕ) (o : Option Name) → option_map number_of (option_map (name_renamed f) o) ≡ option_map f (option_map number_of o)
defined_renamed f None = refl
defined_renamed f (Some name) = refl

abbrev outlined : Option ℕ → Uses ℕ → Option ℕ → List ℕ → List ℕ → Outline ℕ
outlined defines uses calls leads_to others = record { defines = defines; uses = uses; calls = calls; leads_to = leads_to; others = others }

same_outline : (d d' : Option ℕ) (u u' : Uses ℕ) (c c' : Option ℕ) (l l' o o' : List ℕ) → d ≡ d' → u ≡ u' → c ≡ c' → l ≡ l' → o ≡ o' → outlined d u c l o ≡ outlined d' u' c' l' o'
same_outline d d' u u' c c' l l' o o' p q r s t =
    ap (λ x. outlined x u c l o) p ∙ (ap (λ x. outlined d' x c l o) q ∙ (ap (λ x. outlined d' u' x l o) r ∙ (ap (λ x. outlined d' u' c' x o) s ∙ ap (outlined d' u' c' l') t)))

pub outline_of_renamed : (f : ℕ → ℕ) (inst : Inst) → inst_outline (inst_renamed f inst) ≡ outline_renamed f (inst_outline inst)
outline_of_renamed f inst =
    same_outline _ _ _ _ _ _ _ _ _ _ (defined_renamed f inst.defines) (takes_renamed f inst.op) (callee_renamed f inst.op) (targets_renamed f inst.op) (sources_renamed f inst.op)

defined_twice : (f g : ℕ → ℕ) (o : Option Name) → option_map (name_renamed g) (option_map (name_renamed f) o) ≡ option_map (name_renamed (λ x. g (f x))) o
defined_twice f g None = refl
defined_twice f g (Some name) = refl

defined_same : (o : Option Name) → option_map (name_renamed (λ x. x)) o ≡ o
defined_same None = refl
defined_same (Some name) = refl

abbrev made : Inst → Option Name → Op → Inst
made inst defines op = record { byte = inst.byte; defines = defines; op = op }

pub inst_renamed_twice : (f g : ℕ → ℕ) (inst : Inst) → inst_renamed g (inst_renamed f inst) ≡ inst_renamed (λ x. g (f x)) inst
inst_renamed_twice f g inst = ap₂ (made inst) (defined_twice f g inst.defines) (renamed_op_twice f g inst.op)

pub inst_renamed_same : (inst : Inst) → inst_renamed (λ x. x) inst ≡ inst
inst_renamed_same inst = ap₂ (made inst) (defined_same inst.defines) (renamed_op_same inst.op)

defined_alike : (f g : ℕ → ℕ) (o : Option Name) → All (Agrees f g) (option_to_list (option_map number_of o)) → option_map (name_renamed f) o ≡ option_map (name_renamed g) o
defined_alike f g None h = refl
defined_alike f g (Some name) h = let P : ℕ → Option Name = λ x. Some (record { number = x; byte = name.byte }) in ap P (All-head (Agrees f g) name.number [] h)

pub inst_renamed_alike : (f g : ℕ → ℕ) (inst : Inst) → All (λ name. f name ≡ g name) (names_of (inst_outline inst)) → inst_renamed f inst ≡ inst_renamed g inst
inst_renamed_alike f g inst h =
    let o = inst_outline inst in
    let behind_defines = All-back (Agrees f g) (option_to_list o.defines) _ h in
    let behind_uses = All-back (Agrees f g) (parents_of o.uses) _ (All-back (Agrees f g) (values_of o.uses) _ behind_defines) in
    let behind_calls = All-back (Agrees f g) (option_to_list o.calls) _ behind_uses in
    ap₂ (made inst) (defined_alike f g inst.defines (All-front (Agrees f g) _ _ h))
    (renamed_op_alike f g inst.op (All-front (Agrees f g) (values_of o.uses) _ behind_defines) (All-front (Agrees f g) (option_to_list o.calls) _ behind_uses) (All-front (Agrees f g) o.leads_to o.others behind_calls) (All-back (Agrees f g) o.leads_to o.others behind_calls))
