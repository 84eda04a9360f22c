-- The text of a canonical kernel is read as that kernel.
use Rattle.std.proofs.Common.{◌≡◌, ◌≤◌, true, None, sym, ◌∙◌, ap, subst}
use Rattle.std.specs.Prelude.{IsUtf8}
use Rattle.ll_parser.specs.Tables.{NoNameTwice}
use Rattle.kernel_tree.specs.declared.kernel.Kernel.{Kernel}
use Rattle.kernel_tree.specs.Canonical.{canonical}
use Rattle.kernel_tree.specs.Covered.{first_undefined, is_covered}
use Rattle.kernel_tree.specs.Numbered.{definition_count, name_bytes}
use Rattle.kernel_reading.specs.CanonicalKernels.{IsCanonicalKernel, IsPrinted}
use Rattle.kernel_reading.proofs.BareForms.{bare, bare-defined-then, canonical-bare, covered-bare, defined-then-bare}
use Rattle.kernel_reading.proofs.KernelReads.{kernel-read}
use Rattle.kernel_reading.proofs.NumberNames.{each-once, number-names, own-named}
use Rattle.kernel_reading.proofs.TextBytes.{kernel-utf8}

-- a kernel that differs in the places of names alone is covered, and has the same canonical form
module _ (found kernel : Kernel) (same : bare found ≡ bare kernel) where
  found-defined : first_undefined kernel ≡ None → first_undefined found ≡ None
  found-defined defined = bare-defined-then found (ap first_undefined same ∙ defined-then-bare kernel defined)

  found-covered : is_covered kernel ≡ true → is_covered found ≡ true
  found-covered covered = sym (covered-bare found) ∙ ap is_covered same ∙ covered-bare kernel ∙ covered

  found-canonical : canonical kernel ≡ canonical found
  found-canonical = sym (canonical-bare kernel) ∙ ap canonical (sym same) ∙ canonical-bare found

  found-names : found.names ≡ kernel.names
  found-names = ap (λ (k : Kernel). k.names) same

pub printed : (kernel : Kernel) → IsCanonicalKernel kernel → definition_count kernel ≤ 4194303 → IsUtf8 (name_bytes kernel) → IsPrinted kernel
printed kernel is few utf8 =
    let own = own-named kernel is in
    let numbers = number-names kernel is few in
    let read = kernel-read kernel own.bytes own.entry_is own.is_token own.allowed numbers in
    record {
      utf8 = kernel-utf8 kernel numbers utf8;
      tokens = read.tokens;
      are_tokens = read.are_tokens;
      source = read.found;
      reads = record { reads = read.reads; distinct = subst NoNameTwice (sym (found-names read.found kernel read.same)) (each-once kernel is) };
      defined = found-defined read.found kernel read.same is.defined;
      covered = found-covered read.found kernel read.same is.covered;
      made = sym is.its_own ∙ found-canonical read.found kernel read.same;
    }
