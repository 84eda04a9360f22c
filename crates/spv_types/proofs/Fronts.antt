-- What the first instructions say goes on by one instruction.
use Rattle.std.proofs.Common.{◌≡◌, ℕ, ◌+◌, ◌<◌, Bool, true, false, List, [], ◌∷◌, ◌++◌, length, get_or, take, Option, Some, None, refl, ap, sym, ◌∙◌}
use Rattle.std.specs.Prelude.{◌||◌}
use Rattle.std.specs.Option.{option_or}
use Rattle.std.proofs.lemmas.List.{take_more}
use Rattle.spv_codec.specs.declared.module.RawInst.{RawInst}
use Rattle.spv_types.specs.Numbers.{numbered, at_id, constant_number}

pub or-assoc : (a b c : Bool) → (a || b) || c ≡ (a || (b || c))
or-assoc true b c = refl
or-assoc false b c = refl

pub option-assoc : {A : Type 0} (a b c : Option A) → option_or (option_or a b) c ≡ option_or a (option_or b c)
option-assoc None b c = refl
option-assoc (Some a) b c = refl

pub option-none : {A : Type 0} (a : Option A) → option_or a None ≡ a
option-none None = refl
option-none (Some a) = refl

-- what stands before an instruction, and the instruction
pub front-more : (insts : List RawInst) (i : ℕ) (inst : RawInst) → i < length insts → inst ≡ get_or insts i inst → take (i + 1) insts ≡ take i insts ++ inst ∷ []
front-more insts i inst below is = take_more insts i inst below ∙ ap (λ x. take i insts ++ x ∷ []) (sym is)

pub number-more : (xs : List RawInst) (x : RawInst) (id : ℕ) → constant_number (xs ++ x ∷ []) id ≡ option_or (constant_number xs id) (at_id id (numbered x))
number-more [] x id = option-none (at_id id (numbered x))
number-more (y ∷ ys) x id =
    ap (option_or (at_id id (numbered y))) (number-more ys x id) ∙ sym (option-assoc (at_id id (numbered y)) (constant_number ys id) (at_id id (numbered x)))
