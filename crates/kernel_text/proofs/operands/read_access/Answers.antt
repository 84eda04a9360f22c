use Rattle.std.proofs.lemmas.Result.{err_from_is_err_and}
use Rattle.kernel_text.specs.declared.name_sorts.NameSort.TheVariants as sort
use Rattle.kernel_text.specs.NameSorts.{written_name}
use Rattle.kernel_text.specs.Parts.{access, align_here}
use Rattle.kernel_text.proofs.NameFacts.{written_rest}
use Rattle.kernel_text.proofs.ReadFacts.{unnamed, unnamed_reads, unnamed_fails, fails_first, fails_second, reads_two}
use Rattle.kernel_text.proofs.operands.read_access.Goals as goal

pub returns-in_err-pointer : goal.returns-in_err-pointer
returns-in_err-pointer c =
    let p = err_from_is_err_and c.from_residual.result c.from_residual.ensures.1 in
    rw p.1 (fails_first (written_name sort.Value) (unnamed align_here) access (λ a. a.pointer) (λ a. a.is_aligned) (λ _ _ _ _ d. d) _ _ _ p.2 c.in_err-pointer.ensures)

pub returns-in_err-is_aligned : goal.returns-in_err-is_aligned
returns-in_err-is_aligned c =
    let p = err_from_is_err_and c.from_residual-in_err-is_aligned.result c.from_residual-in_err-is_aligned.ensures.1 in
    rw p.1 (fails_second (written_name sort.Value) (unnamed align_here) access (λ a. a.pointer) (λ a. a.is_aligned) (λ _ _ _ _ d. d) (written_rest sort.Value) _ _ _ _ _ _ _ p.2 c.in_ok-pointer.ensures (unnamed_fails align_here _ _ c.in_err-is_aligned.ensures))

pub returns : goal.returns
returns c =
    reads_two (written_name sort.Value) (unnamed align_here) access (λ a. a.pointer) (λ a. a.is_aligned) (λ _ _ _ _ d. d) _ _ _ _ _ _ _ _ _ (λ _ d. d) c.in_ok-pointer.ensures (unnamed_reads align_here _ _ _ _ c.in_ok-is_aligned.ensures)
