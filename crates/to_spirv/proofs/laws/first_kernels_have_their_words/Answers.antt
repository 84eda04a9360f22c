use Rattle.std.proofs.Common.{refl, arith, ◌<◌, ◌+◌}
use Rattle.std.proofs.lemmas.List.Elements.{All-nil, All-from_recursion}
use Rattle.kernel_tree.specs.declared.names.Use.{Use}
use Rattle.kernel_tree.specs.Names.{uses}
use Rattle.kernel_tree.specs.Numbered.{number_used, definition_count}
use Rattle.to_spirv.specs.KernelTypes.{types_of}
use Rattle.to_spirv.specs.FirstKernels.{empty_kernel, adding_kernel}
use Rattle.to_spirv.proofs.laws.first_kernels_have_their_words.Goals as goal

pub returns : goal.returns
unfolding types_of
returns c = record {
  empty_numbered = record { defined = refl; used = All-nil (λ (u : Use). number_used u < definition_count empty_kernel + 1) };
  empty_words = refl;
  adding_numbered = record {
    defined = refl;
    used = All-from_recursion (λ (u : Use). number_used u < definition_count adding_kernel + 1) (uses adding_kernel)
        (omega arith, (omega arith, (omega arith, (omega arith, (omega arith, tt)))));
  };
  adding_module = refl;
  adding_words = refl;
}
