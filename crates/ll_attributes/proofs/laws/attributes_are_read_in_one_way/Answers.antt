use Rattle.ll_attributes.proofs.AttributeFacts.{attributes_one, attributes_same}
use Rattle.ll_attributes.proofs.laws.attributes_are_read_in_one_way.Goals as goal

pub returns : goal.returns
returns c = λ names once xs ys tokens a b d e. (attributes_same names once xs ys tokens a b d e, attributes_one names names xs ys tokens a b d e)
