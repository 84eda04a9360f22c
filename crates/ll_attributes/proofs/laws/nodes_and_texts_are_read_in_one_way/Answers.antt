use Rattle.ll_attributes.proofs.AttachmentFacts.{node_one, node_same}
use Rattle.ll_attributes.proofs.HeadFacts.{text_same}
use Rattle.ll_attributes.proofs.laws.nodes_and_texts_are_read_in_one_way.Goals as goal

pub returns : goal.returns
returns c = record { node = λ n m tokens a b d e. (node_same n m tokens a b d e, node_one n m tokens a b d e); text = text_same }
