use Rattle.std.proofs.Common.{◌<◌, length, ap, sym, Err, arith}
use Rattle.std.proofs.lemmas.Bool.Decides.{nat_tests}
use Rattle.std.proofs.lemmas.List.{take_rest}
use Rattle.spv_codec.proofs.ReadStrings.{read_string-BeginsString, read_string-bad}
use Rattle.spv_names.specs.Uses.{behind_reading}
use Rattle.spv_names.proofs.uses.behind_string.Goals as goal
use Rattle.spv_names.proofs.uses.behind_string.Goals.{in-Ok, in-Err-Bad, in-Err-NoMemory}

pub returns : goal.returns
returns c =
    let some : 0 < length c.args.words.now = grind (arith, nat_tests) in
    elim c.match-words_string.branch [
      | in-Ok w ↦ rw w.result-is (rw take_rest (sym (ap behind_reading (read_string-BeginsString c.args.words.now _ w.in-Ok.used some w.in-Ok.ensures.read))))
      | in-Err-Bad w ↦ rw w.result-is (sym (ap behind_reading (read_string-bad c.args.words.now some (w.in-Err-Bad.ensures.bad (ap Err w.in-Err-Bad.field-0-is)))))
      | in-Err-NoMemory w ↦ rw w.result-is tt
    ]
