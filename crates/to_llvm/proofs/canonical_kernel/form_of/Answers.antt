use Rattle.std.proofs.Common.{sym, ◌∙◌}
use Rattle.std.proofs.lemmas.Bool.{false≢true}
use Rattle.to_llvm.proofs.OwnNameLemmas.{own-is, is-own}
use Rattle.to_llvm.proofs.canonical_kernel.form_of.Goals as goal

pub returns-then-not-has_own_name : goal.returns-then-not-has_own_name
returns-then-not-has_own_name c = λ has. false≢true (sym c.if-not-has_own_name.true ∙ c.has_own_name.ensures ∙ is-own _ has.own_name)

pub returns-in-Ok : goal.returns-in-Ok
returns-in-Ok c =
    let canonized = c.in-Ok.ensures in
    (record { defined = canonized.defined; covered = canonized.covered; own_name = own-is _ (sym c.has_own_name.ensures ∙ c.if-not-has_own_name.false) }, canonized.made)
