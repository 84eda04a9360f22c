use Rattle.ll_heads.proofs.HeadExact.{declaration_one, definition_one}
use Rattle.ll_heads.proofs.HeadsAlike.{declaration_same, definition_same}
use Rattle.ll_heads.proofs.laws.heads_are_read_in_one_way.Goals as goal

pub returns : goal.returns
returns c = record {
  declarations = λ names once h g tokens a b d e. (declaration_same names once h g tokens a b d e, declaration_one names names h g tokens a b d e);
  definitions = λ names once s t tokens a b d e. (definition_same names once s t tokens a b d e, definition_one names names s t tokens a b d e);
}
