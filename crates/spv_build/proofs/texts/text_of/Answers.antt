use Rattle.std.proofs.Common.{◌≡◌, ◌<◌, length, ap, sym, ◌∙◌, Err, arith}
use Rattle.std.proofs.lemmas.Bool.Decides.{nat_tests}
use Rattle.spv_build.proofs.TextLemmas.{text-empty, text-bad, text-read}
use Rattle.spv_build.proofs.texts.text_of.Goals as goal

pub returns-then-is_empty : goal.returns-then-is_empty
returns-then-is_empty c =
    let none : length c.args.words.now ≡ 0 = grind (arith, nat_tests) in
    c.new.ensures ∙ sym (text-empty c.args.words.now none)

pub returns-in_ok-from_slice-in-Ok : goal.returns-in_ok-from_slice-in-Ok
returns-in_ok-from_slice-in-Ok c =
    let some : 0 < length c.args.words.now = grind (arith, nat_tests) in
    c.in_ok-from_slice-in-Ok.ensures ∙ (c.as_bytes.ensures.value ∙ sym (text-read c.args.words.now _ c.in-Ok.field-0-1 some c.in-Ok.ensures.read))

pub returns-in-Err-Bad : goal.returns-in-Err-Bad
returns-in-Err-Bad c =
    let some : 0 < length c.args.words.now = grind (arith, nat_tests) in
    c.new-in-Err-Bad.ensures ∙ sym (text-bad c.args.words.now some (c.in-Err-Bad.ensures.bad (ap Err c.in-Err-Bad.field-0-is)))
