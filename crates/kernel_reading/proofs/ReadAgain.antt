-- What is read from the text of a canonical kernel.
use Rattle.std.proofs.Common.{◌≡◌, ℕ, ◌≤◌, true, List, [], length, slice_get, sym, ◌∙◌, ap, subst, refl, lit≤}
use Rattle.std.specs.Prelude.{codes}
use Rattle.ll_tokens.specs.Forms.{has_form}
use Rattle.ll_tokens.specs.Tokens.{Lexeme, IsTokens}
use Rattle.ll_tokens.proofs.Places.{no_token_at_end, one_reading}
use Rattle.kernel_tree.specs.declared.kernel.Kernel.{Kernel}
use Rattle.kernel_tree.specs.Canonical.{canonical}
use Rattle.kernel_tree.specs.Covered.{is_covered}
use Rattle.kernel_tree.specs.Numbered.{definition_count}
use Rattle.kernel_tree.specs.Same.{IsSameKernel}
use Rattle.kernel_tree.specs.Text.{kernel_text}
use Rattle.kernel_tree.proofs.AlignedNames.{definitions-aligned}
use Rattle.kernel_text.specs.Examples.{example_kernel}
use Rattle.kernel_text.specs.Grammar.{IsKernelText}
use Rattle.kernel_text.proofs.OneKernel.{one-kernel}
use Rattle.ll_canon.specs.Canon.{IsCanonized}
use Rattle.ll_canon.proofs.SameForms.{canonical-is, covered-is, undefined-is}
use Rattle.kernel_reading.specs.CanonicalKernels.{IsCanonicalKernel, IsOwnName, IsPrinted}
use Rattle.kernel_reading.specs.Examples.{ExampleIsPrinted}
use Rattle.kernel_reading.proofs.CanonicalForms.{canonical-kernel, count, counted}
use Rattle.kernel_reading.proofs.NumberNames.{own-named}
use Rattle.kernel_reading.proofs.OwnBytes.{own-utf8}
use Rattle.kernel_reading.proofs.OwnNames.{own-name}
use Rattle.kernel_reading.proofs.PrintedKernels.{printed}

same-tokens : (text : List ℕ) (tokens others : List Lexeme) → IsTokens text tokens → IsTokens text others → tokens ≡ others
same-tokens text tokens others are also = (one_reading (length text) text [] [] tokens others are no_token_at_end also no_token_at_end).0

-- a kernel that is read from the text, and the one that is known to be
canonized : (kernel : Kernel) (read : IsPrinted kernel) (tokens : List Lexeme) (other : Kernel) → IsTokens (kernel_text kernel) tokens → IsKernelText tokens other → IsCanonized other kernel
canonized kernel read tokens other are reads =
    let there : IsKernelText tokens read.source = subst (λ (ts : List Lexeme). IsKernelText ts read.source) (same-tokens (kernel_text kernel) read.tokens tokens read.are_tokens are) read.reads in
    let same : IsSameKernel other read.source = one-kernel tokens other read.source reads there in
    record {
      defined = undefined-is other read.source reads.distinct there.distinct same ∙ read.defined;
      covered = covered-is other read.source reads.distinct there.distinct same ∙ read.covered;
      made = read.made ∙ sym (canonical-is other read.source reads.distinct there.distinct same);
    }

pub one-printed : (kernel : Kernel) → IsCanonicalKernel kernel → definition_count kernel ≤ 4194303 → (tokens : List Lexeme) (other : Kernel)
    → IsTokens (kernel_text kernel) tokens → IsKernelText tokens other → IsCanonized other kernel
one-printed kernel is few tokens other are reads = canonized kernel (printed kernel is few (own-utf8 _ (own-named kernel is))) tokens other are reads

-- a canonical form has as many definitions
count-kept : (source : Kernel) → is_covered source ≡ true → IsOwnName (slice_get source.names source.name.number) → definition_count source ≡ definition_count (canonical source)
count-kept source covered own =
    sym (count source covered own ∙ counted source covered own ∙ ap length (definitions-aligned source))

pub read-again : (text : List ℕ) (tokens : List Lexeme) (source : Kernel) → canonical (canonical source) ≡ canonical source → IsTokens text tokens → IsKernelText tokens source
    → is_covered source ≡ true → definition_count source ≤ 4194303 → IsPrinted (canonical source)
read-again text tokens source again are reads covered few =
    let own = own-name text tokens source are reads in
    let is = canonical-kernel source covered own again in
    printed (canonical source) is (subst (λ (n : ℕ). n ≤ 4194303) (count-kept source covered own) few) (own-utf8 _ (own-named (canonical source) is))

own-example : IsOwnName (slice_get example_kernel.names example_kernel.name.number)
unfolding has_form
own-example = record { bytes = codes "k"; entry_is = refl; is_token = refl; allowed = refl }

pub example-printed : canonical (canonical example_kernel) ≡ canonical example_kernel → ExampleIsPrinted
example-printed again =
    let is = canonical-kernel example_kernel refl own-example again in
    let few : definition_count (canonical example_kernel) ≤ 4194303 = lit≤ tt in
    (is, printed (canonical example_kernel) is few (own-utf8 _ (own-named (canonical example_kernel) is)))
