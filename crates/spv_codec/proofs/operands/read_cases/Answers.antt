use Rattle.std.proofs.Common.{◌<◌, length, sym, arith}
use Rattle.std.proofs.lemmas.Bool.Decides.{nat_tests}
use Rattle.spv_codec.proofs.ReadLoops.{read_cases-more}
use Rattle.spv_codec.proofs.operands.read_cases.Goals as goal

pub loop-width-preserved : goal.loop-width-preserved
loop-width-preserved c =
    let some : 0 < length c.loop-width.rest.now = grind (arith, nat_tests) in
    read_cases-more c.args.width c.args.words.now c.loop-width.rest.now c.in_ok-read_number.field-0.now c.in_ok-rest.rest.now c.loop-width.invariant some (sym c.in_ok-read_number.ensures) (sym c.in_ok-rest.ensures)
