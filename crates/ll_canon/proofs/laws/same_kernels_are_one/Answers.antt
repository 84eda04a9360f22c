use Rattle.ll_canon.proofs.SameForms.{canonical-is, covered-is, undefined-is}
use Rattle.ll_canon.proofs.laws.same_kernels_are_one.Goals as goal

pub returns : goal.returns
returns c = λ kernel other once also_once same.
    (undefined-is kernel other once also_once same, covered-is kernel other once also_once same, canonical-is kernel other once also_once same)
