use Rattle.std.proofs.lemmas.Result.{err_from_is_err_and}
use Rattle.kernel_text.specs.declared.name_sorts.NameSort.TheVariants as sort
use Rattle.kernel_text.specs.NameSorts.{written_name}
use Rattle.kernel_text.specs.Parts.{operation, definition}
use Rattle.kernel_text.proofs.NameFacts.{written_rest}
use Rattle.kernel_text.proofs.ReadFacts.{fails_first, fails_second, reads_two}
use Rattle.kernel_text.proofs.insts.definition.Goals as goal

pub returns-in_err-name : goal.returns-in_err-name
returns-in_err-name c =
    let p = err_from_is_err_and c.from_residual.result c.from_residual.ensures.1 in
    rw p.1 (fails_first (written_name sort.Value) operation definition (λ d. d.0) (λ d. d.1) (λ _ _ _ _ d. d) _ _ _ p.2 c.in_err-name.ensures)

pub returns-in_err-operation : goal.returns-in_err-operation
returns-in_err-operation c =
    let p = err_from_is_err_and c.from_residual-in_err-operation.result c.from_residual-in_err-operation.ensures.1 in
    rw p.1 (fails_second (written_name sort.Value) operation definition (λ d. d.0) (λ d. d.1) (λ _ _ _ _ d. d) (written_rest sort.Value) _ _ _ _ _ _ _ p.2 c.in_ok-name.ensures c.in_err-operation.ensures)

pub returns : goal.returns
returns c =
    reads_two (written_name sort.Value) operation definition (λ d. d.0) (λ d. d.1) (λ _ _ _ _ d. d) _ _ _ _ _ _ _ _ _ (λ _ d. d) c.in_ok-name.ensures c.in_ok-operation.ensures
