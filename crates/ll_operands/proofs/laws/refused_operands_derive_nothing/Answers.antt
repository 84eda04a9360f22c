use Rattle.ll_operands.proofs.OperandFacts.{exact_one_type, exact_three, exact_two, one_type_is_part, three_is_part, two_is_part}
use Rattle.ll_operands.proofs.laws.refused_operands_derive_nothing.Goals as goal

pub returns-clause-two : goal.returns-clause-two
returns-clause-two c = λ tokens refusal stops names o rest d. exact_two.none tokens rest refusal stops (two_is_part names o tokens rest d)

pub returns-clause-three : goal.returns-clause-three
returns-clause-three c = λ tokens refusal stops names o rest d. exact_three.none tokens rest refusal stops (three_is_part names o tokens rest d)

pub returns-clause-of_one_type : goal.returns-clause-of_one_type
returns-clause-of_one_type c = λ tokens refusal stops names o rest d. exact_one_type.none tokens rest refusal stops (one_type_is_part names o tokens rest d)
