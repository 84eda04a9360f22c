use Rattle.std.proofs.lemmas.Result.{err_from_is_err_and}
use Rattle.kernel_text.specs.declared.phrases.Phrase.TheVariants as phrase
use Rattle.kernel_text.specs.Parts.{AtReturn, all_of, inst_here, insts_end}
use Rattle.kernel_text.proofs.InstFacts.{insts_rest, insts_end_shape, insts_end_join}
use Rattle.kernel_text.proofs.ReadFacts.{phrase_item, phrase_reads, phrase_fails, fails_first, fails_second, reads_two}
use Rattle.kernel_text.proofs.insts.insts_end.Goals as goal

pub returns-in_err-insts : goal.returns-in_err-insts
returns-in_err-insts c =
    let p = err_from_is_err_and c.from_residual.result c.from_residual.ensures.1 in
    rw p.1 (fails_first (all_of inst_here AtReturn) (phrase_item phrase.BodyEnd) insts_end (λ is. is) (λ _. tt) insts_end_shape _ _ _ p.2 c.in_err-insts.ensures)

pub returns-in_err-rest : goal.returns-in_err-rest
returns-in_err-rest c =
    let p = err_from_is_err_and c.from_residual-in_err-rest.result c.from_residual-in_err-rest.ensures.1 in
    rw p.1 (fails_second (all_of inst_here AtReturn) (phrase_item phrase.BodyEnd) insts_end (λ is. is) (λ _. tt) insts_end_shape insts_rest _ _ _ _ _ _ _ p.2 c.in_ok-insts.ensures (phrase_fails phrase.BodyEnd _ _ c.in_err-rest.ensures))

pub returns : goal.returns
returns c =
    reads_two (all_of inst_here AtReturn) (phrase_item phrase.BodyEnd) insts_end (λ is. is) (λ _. tt) insts_end_shape _ _ _ _ _ _ _ _ _ (λ names d. insts_end_join names _ _ _ d) c.in_ok-insts.ensures (phrase_reads phrase.BodyEnd _ _ _ c.in_ok-rest.ensures)
