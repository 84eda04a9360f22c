use Rattle.ll_operands.proofs.OperandFacts.{exact_one_type, exact_three, exact_two, one_type_is_part, three_is_part, two_is_part}
use Rattle.ll_operands.proofs.laws.operands_leave_one_rest.Goals as goal

pub returns-clause-two : goal.returns-clause-two
returns-clause-two c = λ names other o p tokens a b d e. exact_two.one tokens a b (two_is_part names o tokens a d) (two_is_part other p tokens b e)

pub returns-clause-three : goal.returns-clause-three
returns-clause-three c = λ names other o p tokens a b d e. exact_three.one tokens a b (three_is_part names o tokens a d) (three_is_part other p tokens b e)

pub returns-clause-of_one_type : goal.returns-clause-of_one_type
returns-clause-of_one_type c = λ names other o p tokens a b d e. exact_one_type.one tokens a b (one_type_is_part names o tokens a d) (one_type_is_part other p tokens b e)
