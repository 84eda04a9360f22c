use Rattle.std.proofs.Common.{◌≢◌, [], ◌∷◌, refl, arith}
use Rattle.std.proofs.lemmas.List.Elements.{All-from_recursion}
use Rattle.ll_tokens.specs.Forms.{has_form}
use Rattle.kernel_tree.specs.Canonical.{canonical}
use Rattle.to_spirv.specs.KernelTypes.{types_of}
use Rattle.to_spirv.specs.FirstKernels.{adding_kernel}
use Rattle.to_spirv.specs.Limits.{HasPlainName}
use Rattle.to_spirv.proofs.LimitLemmas.{small-within}
use Rattle.kernel_reading.proofs.FormsCanonical.{forms-canonical}
use Rattle.to_llvm.specs.Guesses.{guessed}
use lib.Utf8.{encode}
use Rattle.to_llvm.proofs.laws.first_kernel_is_found.Goals as goal

plain : HasPlainName (canonical adding_kernel)
unfolding encode
plain = record {
  utf8 = (0x61 ∷ [], (refl, refl));
  no_zero = All-from_recursion (λ byte. byte ≢ 0) (0x61 ∷ []) (omega arith, tt);
}

pub returns : goal.returns
unfolding types_of guessed has_form
returns c = record {
  is_canonical = forms-canonical adding_kernel refl refl (record { bytes = 0x61 ∷ []; entry_is = refl; is_token = refl; allowed = refl });
  has_module = record {
    within = small-within (canonical adding_kernel) (record { bound = omega arith; name = omega arith; params = omega arith });
    plain = plain;
    same = refl;
  };
  is_guessed = refl;
}
