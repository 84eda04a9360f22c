use Rattle.std.proofs.Common.{◌≡◌, ℕ, nat_eq, [], ◌∷◌, All, sym, ◌∙◌, ap, refl, arith, unwrap_or, flat_map, true}
use Rattle.std.specs.Map.{lookup}
use Rattle.std.proofs.lemmas.List.Elements.{All-from_recursion, All-contains}
use Rattle.inst_walk.specs.RenamedBody.{IsInjectiveOn}
use Rattle.kernel_tree.specs.Names.{uses}
use Rattle.spv_module.specs.FirstKernel.{first_kernel}
use Rattle.kernel_runs.specs.FirstKernel.{first_written, first_numbered}
use Rattle.kernel_runs.specs.FirstImages.{numbered, first_id}
use Rattle.kernel_runs.specs.Images.{IsRenamed, IsImage, HasNumbers}
use Rattle.kernel_runs.specs.Names.{IsTyped, IsTypedUse, value_numbers, result_typed}
use Rattle.kernel_runs.proofs.first_kernels_fit.Goals as goal

typed-written : IsTyped first_written
typed-written = All-from_recursion (IsTypedUse first_written) (uses first_written) (refl, (refl, (refl, (refl, (refl, tt)))))

typed : IsTyped first_numbered
typed = All-from_recursion (IsTypedUse first_numbered) (uses first_numbered) (refl, (refl, (refl, (refl, (refl, tt)))))

-- the way back
written : ℕ → ℕ
written number = unwrap_or (lookup (nat_eq number) ((1, 0) ∷ (2, 1) ∷ (4, 2) ∷ (5, 4) ∷ [])) number

injective : IsInjectiveOn numbered (value_numbers first_written)
unfolding written
injective a b at_a at_b same =
    let Back : ℕ → Type 0 = λ n. written (numbered n) ≡ n in
    let back : All Back (value_numbers first_written) =
    All-from_recursion Back (value_numbers first_written) (refl, (refl, (refl, (refl, (refl, (refl, (refl, (refl, (refl, tt))))))))) in
    sym (All-contains Back (value_numbers first_written) a back at_a) ∙ (ap written same ∙ All-contains Back (value_numbers first_written) b back at_b)

renamed : IsRenamed first_written numbered first_numbered
renamed = record { injective = injective; name = refl; params = refl; insts = refl }

image : IsImage first_numbered first_id first_kernel
image = record {
  injective = λ a b at_a at_b same. omega (arith, same);
  positive = λ n at same. omega (arith, same);
  no_constant = λ n at. refl;
  no_variables = refl;
  entry = _;
  entries = refl;
  entry_name = refl;
  function = _;
  functions = refl;
  entry_function = refl;
  int = record { 0 = 1 };
  params = refl;
  int_id = 2;
  numbers = All-from_recursion (HasNumbers first_kernel 2) (flat_map result_typed first_numbered.insts) (refl, (refl, tt));
  body = _;
  bodies = refl;
  block = _;
  blocks = refl;
  states_alignment = λ i. true;
  insts = refl;
}

pub returns : goal.returns
returns c = record { typed_written = typed-written; typed = typed; renamed = renamed; image = image }
