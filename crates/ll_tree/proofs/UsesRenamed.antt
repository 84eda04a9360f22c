-- The lists of what an instruction takes, when its names are renamed.
use Rattle.std.proofs.Common.{◌≡◌, ℕ, List, [], ◌∷◌, map, refl, ap, ◌∙◌}
use Rattle.inst_walk.specs.Outline.{Uses, Plain, Phi as Choice, values_of, parents_of, uses_renamed}
use Rattle.ll_tree.specs.declared.inst.Inst.{Inst}
use Rattle.ll_tree.specs.Insts.{inst_renamed}
use Rattle.ll_tree.specs.Ops.{op_takes}
use Rattle.ll_tree.specs.OpLaws.{takes_renamed}

module _ (f : ℕ → ℕ) where
  firsts : (es : List (ℕ × ℕ)) → map (λ (e : ℕ × ℕ). e.0) (map (λ (e : ℕ × ℕ). (f e.0, f e.1)) es) ≡ map f (map (λ (e : ℕ × ℕ). e.0) es)
  firsts [] = refl
  firsts (e ∷ es) = ap (λ later. f e.0 ∷ later) (firsts es)

  seconds : (es : List (ℕ × ℕ)) → map (λ (e : ℕ × ℕ). e.1) (map (λ (e : ℕ × ℕ). (f e.0, f e.1)) es) ≡ map f (map (λ (e : ℕ × ℕ). e.1) es)
  seconds [] = refl
  seconds (e ∷ es) = ap (λ later. f e.1 ∷ later) (seconds es)

  values_of_renamed : (u : Uses ℕ) → values_of (uses_renamed f u) ≡ map f (values_of u)
  values_of_renamed (Plain values) = refl
  values_of_renamed (Choice entries) = firsts entries

  parents_of_renamed : (u : Uses ℕ) → parents_of (uses_renamed f u) ≡ map f (parents_of u)
  parents_of_renamed (Plain values) = refl
  parents_of_renamed (Choice entries) = seconds entries

  pub inst_values_renamed : (inst : Inst) → values_of (op_takes (inst_renamed f inst).op) ≡ map f (values_of (op_takes inst.op))
  inst_values_renamed inst = ap values_of (takes_renamed f inst.op) ∙ values_of_renamed (op_takes inst.op)

  pub inst_parents_renamed : (inst : Inst) → parents_of (op_takes (inst_renamed f inst).op) ≡ map f (parents_of (op_takes inst.op))
  inst_parents_renamed inst = ap parents_of (takes_renamed f inst.op) ∙ parents_of_renamed (op_takes inst.op)
