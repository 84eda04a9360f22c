use Rattle.std.proofs.Common.{◌≡◌, ℕ, zero, suc, Bool, true, false, [], ◌∷◌, Option, Some, slice_get, refl, sym, ap, ◌∙◌, inr, true≢false}
use Rattle.ll_tree.specs.declared.name.NameKind.{NameKind}
use Rattle.ll_tree.specs.declared.name.NameKind.TheVariants.{Global}
use Rattle.ll_tree.specs.declared.name.NameText.{NameText}
use Rattle.ll_parser.specs.Productions.{◌>>◌}
use Rattle.ll_parser.specs.Examples.{kernel, kernel_function, kernel_body}
use Rattle.ll_parser.specs.GrammarItems.{ADefinition}
use Rattle.ll_parser.proofs.laws.kernels_are_read.Goals as goal

abbrev is_global : NameKind → Bool
is_global Global = true
is_global _ = false

abbrev has_global : Option NameText → Bool
has_global (Some entry) = is_global entry.kind
has_global _ = false

apart : (i j : ℕ) (entry : NameText) → slice_get kernel.names i ≡ Some entry → slice_get kernel.names j ≡ Some entry → i ≡ j
apart zero zero entry d e = refl
apart zero (suc zero) entry d e = absurd (true≢false (ap has_global (d ∙ sym e)))
apart (suc zero) zero entry d e = absurd (true≢false (ap has_global (e ∙ sym d)))
apart (suc zero) (suc zero) entry d e = refl
apart (suc (suc i)) j entry d e = absurd cc
apart zero (suc (suc j)) entry d e = absurd cc
apart (suc zero) (suc (suc j)) entry d e = absurd cc

pub returns : goal.returns
unfolding ◌>>◌
returns c = record {
  items = ADefinition kernel_function kernel_body ∷ [];
  reads = (_, ([], record { arg_type = refl; required = refl; hint = refl }, refl, (λ e. cc), (_, (_, refl, refl, (refl, refl)), (_, (_, refl, (_, inr refl, (_, (_, refl, refl, refl), (_, refl, (_, (_, (_, refl, refl, refl), refl), (_, (_, refl, refl, (refl, (tt, refl))), (_, (_, refl, refl, refl), (_, refl, (_, (_, refl, refl, refl), (_, inr refl, ([], refl))))))))))), (_, refl, (_, (_, refl, refl, refl), (_, (_, (refl, inr (refl, refl)), (_, (refl, (refl, (_, (refl, refl), (_, (_, (_, refl, refl, refl), (_, refl, refl, refl)), ([], refl))))), refl)), (_, refl, refl, refl))))))), refl);
  targets = refl;
  structs = refl;
  variables = refl;
  declares = refl;
  functions = refl;
  bodies = refl;
  ocl_version = refl;
  nodes = refl;
  pointer = refl;
  distinct = apart;
}
