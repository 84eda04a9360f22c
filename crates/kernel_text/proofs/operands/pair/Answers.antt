use Rattle.std.proofs.lemmas.Result.{err_from_is_err_and}
use Rattle.kernel_text.specs.declared.name_sorts.NameSort.TheVariants as sort
use Rattle.kernel_text.specs.declared.phrases.Phrase.TheVariants as phrase
use Rattle.kernel_text.specs.NameSorts.{written_name}
use Rattle.kernel_text.specs.Parts.{pair}
use Rattle.kernel_text.proofs.NameFacts.{written_rest}
use Rattle.kernel_text.proofs.Triples.{fails_at_first, fails_at_phrase, fails_at_last, reads_three}
use Rattle.kernel_text.proofs.operands.pair.Goals as goal

pub returns-in_err-left : goal.returns-in_err-left
returns-in_err-left c =
    let p = err_from_is_err_and c.from_residual.result c.from_residual.ensures.1 in
    rw p.1 (fails_at_first (written_name sort.Value) phrase.Comma (written_name sort.Value) pair (λ x. x.0) (λ x. x.1) (λ _ _ _ _ d. d) _ _ _ p.2 c.in_err-left.ensures)

pub returns-in_err-second : goal.returns-in_err-second
returns-in_err-second c =
    let p = err_from_is_err_and c.from_residual-in_err-second.result c.from_residual-in_err-second.ensures.1 in
    rw p.1 (fails_at_phrase (written_name sort.Value) phrase.Comma (written_name sort.Value) pair (λ x. x.0) (λ x. x.1) (λ _ _ _ _ d. d) (written_rest sort.Value) _ _ _ _ _ _ _ p.2 c.in_ok-left.ensures c.in_err-second.ensures)

pub returns-in_err-right : goal.returns-in_err-right
returns-in_err-right c =
    let p = err_from_is_err_and c.from_residual-in_err-right.result c.from_residual-in_err-right.ensures.1 in
    rw p.1 (fails_at_last (written_name sort.Value) phrase.Comma (written_name sort.Value) pair (λ x. x.0) (λ x. x.1) (λ _ _ _ _ d. d) (written_rest sort.Value) _ _ _ _ _ _ _ _ p.2 c.in_ok-left.ensures c.in_ok-second.ensures c.in_err-right.ensures)

pub returns : goal.returns
returns c =
    reads_three (written_name sort.Value) phrase.Comma (written_name sort.Value) pair (λ x. x.0) (λ x. x.1) (λ _ _ _ _ d. d) _ _ _ _ _ _ _ _ _ _ (λ _ d. d) c.in_ok-left.ensures c.in_ok-second.ensures c.in_ok-right.ensures
