-- The table of first definitions grows by one instruction, and says what the instructions before a place define.
use Rattle.std.proofs.Common.{◌≡◌, ℕ, ◌+◌, ◌<◌, Bool, true, false, List, [], ◌∷◌, ◌++◌, length, get_or, take, Option, Some, None, refl, ap, ap₂, sym, ◌∙◌, arith}
use Rattle.std.specs.Prelude.{if◌then◌else◌}
use Rattle.std.specs.Option.{option_or}
use Rattle.std.proofs.lemmas.List.{length-take}
use Rattle.spv_codec.specs.declared.module.RawInst.{RawInst}
use Rattle.spv_names.specs.declared.definitions.Definition.{Definition}
use Rattle.spv_sections.proofs.Scans.{front-more}
use Rattle.spv_names.specs.Definitions.{defines, function_behind, function_after, home_of, entry_from}

abbrev entry_here : ℕ → Option ℕ → RawInst → ℕ → Option Definition
entry_here index function inst id = if defines id inst then Some (record { index = index; function = home_of function inst }) else None

one-entry : (b : Bool) (d : Definition) (rest : Option Definition) → (if b then Some d else rest) ≡ option_or (if b then Some d else None) rest
one-entry true d rest = refl
one-entry false d rest = refl

or-assoc : (a b c : Option Definition) → option_or (option_or a b) c ≡ option_or a (option_or b c)
or-assoc None b c = refl
or-assoc (Some a) b c = refl

or-none : (a : Option Definition) → option_or a None ≡ a
or-none None = refl
or-none (Some a) = refl

pub function-more : (index : ℕ) (function : Option ℕ) (xs : List RawInst) (x : RawInst)
    → function_after index function (xs ++ x ∷ []) ≡ function_behind (index + length xs) (function_after index function xs) x
function-more index function [] x = ap (λ n. function_behind n function x) (omega arith)
function-more index function (y ∷ ys) x =
    function-more (index + 1) (function_behind index function y) ys x
    ∙ ap (λ n. function_behind n (function_after (index + 1) (function_behind index function y) ys) x) (omega arith)

pub entry-more : (index : ℕ) (function : Option ℕ) (xs : List RawInst) (x : RawInst) (id : ℕ)
    → entry_from index function (xs ++ x ∷ []) id ≡ option_or (entry_from index function xs id) (entry_here (index + length xs) (function_after index function xs) x id)
entry-more index function [] x id = ap (λ n. entry_here n function x id) (omega arith)
entry-more index function (y ∷ ys) x id =
    let here : Definition = record { index = index; function = home_of function y } in
    let rest = entry_from (index + 1) (function_behind index function y) ys id in
    let last : Option Definition = entry_here (index + 1 + length ys) (function_after (index + 1) (function_behind index function y) ys) x id in
    one-entry (defines id y) here _
    ∙ (ap (option_or (if defines id y then Some here else None)) (entry-more (index + 1) (function_behind index function y) ys x id)
    ∙ (sym (or-assoc (if defines id y then Some here else None) rest last)
    ∙ (ap (λ o. option_or o last) (sym (one-entry (defines id y) here rest))
    ∙ ap (λ n. option_or (if defines id y then Some here else rest) (entry_here n (function_after (index + 1) (function_behind index function y) ys) x id)) (omega arith))))

-- the function that the instruction behind the next one belongs to
pub function-next : (insts : List RawInst) (i : ℕ) (inst : RawInst) → i < length insts → inst ≡ get_or insts i inst
    → (function : Option ℕ) → function ≡ function_after 0 None (take i insts) → function_behind i function inst ≡ function_after 0 None (take (i + 1) insts)
function-next insts i inst below is function so_far =
    let long : 0 + length (take i insts) ≡ i = omega (arith, length-take i insts) in
    ap₂ (λ n f. function_behind n f inst) (sym long) so_far
    ∙ (sym (function-more 0 None (take i insts) inst) ∙ ap (function_after 0 None) (sym (front-more insts i inst below is)))
