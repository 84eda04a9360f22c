use Rattle.ll_parser.proofs.TableFacts.{spelled}
use Rattle.ll_parser.proofs.names.spelled_number.Goals as goal

pub returns-in_ok-number_of-in-Some-clause-spelled :
    goal.returns-in_ok-number_of-in-Some-clause-spelled
returns-in_ok-number_of-in-Some-clause-spelled c =
    let found = rw c.in-Some.is at c.in_ok-spelling.ensures in
    spelled _ _ _ _ _ _ found.0 found.1 c.in_ok-number_of-in-Some.ensures.entry c.number_of.ensures.kept
