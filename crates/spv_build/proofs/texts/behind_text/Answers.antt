use Rattle.std.proofs.Common.{◌≡◌, ◌<◌, length, ap, sym, Err, arith}
use Rattle.std.proofs.lemmas.Bool.Decides.{nat_tests}
use Rattle.std.proofs.lemmas.List.{take_rest}
use Rattle.spv_codec.proofs.ReadStrings.{read_string-BeginsString, read_string-bad}
use Rattle.spv_names.specs.Uses.{behind_reading}
use Rattle.spv_build.specs.Entries.{behind_text}
use Rattle.spv_build.proofs.TextLemmas.{behind-empty}
use Rattle.spv_build.proofs.texts.behind_text.Goals as goal
use Rattle.spv_build.proofs.texts.behind_text.Goals.{in-Ok, in-Err-Bad, in-Err-NoMemory}

pub returns : goal.returns
unfolding behind_text
returns c =
    let some : 0 < length c.args.words.now = grind (arith, nat_tests) in
    elim c.match-words_string.branch [
      | in-Ok w ↦ rw w.result-is (rw take_rest (sym (ap behind_reading (read_string-BeginsString c.args.words.now _ w.in-Ok.used some w.in-Ok.ensures.read))))
      | in-Err-Bad w ↦ rw w.result-is (sym (ap behind_reading (read_string-bad c.args.words.now some (w.in-Err-Bad.ensures.bad (ap Err w.in-Err-Bad.field-0-is)))))
      | in-Err-NoMemory w ↦ rw w.result-is tt
    ]

pub returns-then-is_empty : goal.returns-then-is_empty
returns-then-is_empty c =
    let none : length c.args.words.now ≡ 0 = grind (arith, nat_tests) in
    sym (behind-empty c.args.words.now none)
