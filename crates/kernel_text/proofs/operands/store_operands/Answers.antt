use Rattle.std.proofs.lemmas.Result.{err_from_is_err_and}
use Rattle.kernel_text.specs.declared.name_sorts.NameSort.TheVariants as sort
use Rattle.kernel_text.specs.declared.phrases.Phrase.TheVariants as phrase
use Rattle.kernel_text.specs.NameSorts.{written_name}
use Rattle.kernel_text.specs.Parts.{access, store_operands}
use Rattle.kernel_text.proofs.NameFacts.{written_rest}
use Rattle.kernel_text.proofs.Triples.{fails_at_first, fails_at_phrase, fails_at_last, reads_three}
use Rattle.kernel_text.proofs.operands.store_operands.Goals as goal

pub returns-in_err-value : goal.returns-in_err-value
returns-in_err-value c =
    let p = err_from_is_err_and c.from_residual.result c.from_residual.ensures.1 in
    rw p.1 (fails_at_first (written_name sort.Value) phrase.PointerOperand access store_operands (λ s. s.value) (λ s. s.access) (λ _ _ _ _ d. d) _ _ _ p.2 c.in_err-value.ensures)

pub returns-in_err-second : goal.returns-in_err-second
returns-in_err-second c =
    let p = err_from_is_err_and c.from_residual-in_err-second.result c.from_residual-in_err-second.ensures.1 in
    rw p.1 (fails_at_phrase (written_name sort.Value) phrase.PointerOperand access store_operands (λ s. s.value) (λ s. s.access) (λ _ _ _ _ d. d) (written_rest sort.Value) _ _ _ _ _ _ _ p.2 c.in_ok-value.ensures c.in_err-second.ensures)

pub returns-in_err-access : goal.returns-in_err-access
returns-in_err-access c =
    let p = err_from_is_err_and c.from_residual-in_err-access.result c.from_residual-in_err-access.ensures.1 in
    rw p.1 (fails_at_last (written_name sort.Value) phrase.PointerOperand access store_operands (λ s. s.value) (λ s. s.access) (λ _ _ _ _ d. d) (written_rest sort.Value) _ _ _ _ _ _ _ _ p.2 c.in_ok-value.ensures c.in_ok-second.ensures c.in_err-access.ensures)

pub returns : goal.returns
returns c =
    reads_three (written_name sort.Value) phrase.PointerOperand access store_operands (λ s. s.value) (λ s. s.access) (λ _ _ _ _ d. d) _ _ _ _ _ _ _ _ _ _ (λ _ d. d) c.in_ok-value.ensures c.in_ok-second.ensures c.in_ok-access.ensures
