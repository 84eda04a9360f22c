-- A word more, and all words at the end.
use Rattle.std.proofs.Common.{◌*◌, subst, arith, List, ℕ}
use Rattle.std.proofs.lemmas.List.{take_all}
use Rattle.spv_words.specs.declared.words.Order.TheVariants.{Little}
use Rattle.spv_words.specs.Words.{IsWords}
use Rattle.spv_words.proofs.WordLemmas.{IsWords-more}
use Rattle.spv_words.proofs.strings.little_words.Goals as goal

pub loop-i-preserved : goal.loop-i-preserved
loop-i-preserved c =
    rw c.in_ok-push.ensures.items (IsWords-more c.args.bytes.now c.loop-i.words.items c.loop-i.i c.little_word.result c.loop-i.invariant c.little_word.ensures c.little_word.type_inv)

pub returns : goal.returns
returns c =
    let P : List ℕ → Type 0 = λ bs. IsWords bs Little c.loop-i.words.items in
    subst P (take_all (4 * c.loop-i.i) c.args.bytes.now (omega (arith, c.requires))) c.loop-i.invariant
