use Rattle.to_llvm.proofs.LawLemmas.{module-told}
use Rattle.to_llvm.proofs.canonical_kernel.is_module_of.Goals as goal

pub returns : goal.returns
returns c =
    module-told c.args.raw.now c.in_ok-made.made c.args.kernel.now c.is_same_module.result (c.is_within_limits.ensures.0 c.if-not-is_within_limits.false)
    (c.has_plain_name.ensures.0 c.if-not-has_plain_name.false) c.in_ok-made.ensures c.is_same_module.ensures
