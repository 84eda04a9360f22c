use Rattle.std.proofs.lemmas.Result.{err_from_is_err_and}
use Rattle.kernel_text.specs.declared.phrases.Phrase.TheVariants as phrase
use Rattle.ll_tokens.specs.Tokens.{lexemes_of}
use Rattle.kernel_text.specs.Grammar.{param}
use Rattle.kernel_text.specs.Parts.{typed_name}
use Rattle.kernel_text.proofs.Triples.{fails_at_words, words_answer}
use Rattle.kernel_text.proofs.params.param.Goals as goal

pub returns-in_err-behind : goal.returns-in_err-behind
returns-in_err-behind c =
    let p = err_from_is_err_and c.from_residual.result c.from_residual.ensures.1 in
    rw p.1 (fails_at_words phrase.IntType typed_name param (λ a. a) (λ _ _ _ _ d. d) _ _ _ p.2 c.in_err-behind.ensures)

pub returns : goal.returns
returns c =
    words_answer phrase.IntType typed_name param (λ _ _ _ _ d. d) (λ _ _ _ _ d. d) (λ x. x.0) (λ x. lexemes_of x.1.now) _ _ _ _ c.typed_name.result c.in_ok-behind.ensures c.typed_name.ensures
