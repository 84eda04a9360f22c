use Rattle.std.proofs.lemmas.Result.{err_from_is_err_and}
use Rattle.kernel_translation.proofs.Back.{module-text, names-break, outside-binary}
use Rattle.kernel_translation.proofs.text_translation.translate_binary.Goals as goal

pub returns-in_err-keep_rules : goal.returns-in_err-keep_rules
returns-in_err-keep_rules c =
    let p = err_from_is_err_and c.from_residual.result c.from_residual.ensures.1 in
    rw p.1 (names-break c.args.input.now c.in-Ok.raw _ _ p.2 c.in-Ok.ensures.spirv c.in_err-keep_rules.ensures)

pub returns-in-Some : goal.returns-in-Some
returns-in-Some c =
    let found = rw c.in-Some.is at c.in_ok-text.ensures in
    module-text c.args.input.now c.in-Some.text.items c.in-Ok.raw c.in-Ok.ensures.spirv c.requires found

pub returns : goal.returns
returns c =
    let none = rw c.in-None.is at c.in_ok-text.ensures in
    outside-binary c.args.input.now c.in-Ok.raw c.in-Ok.ensures.spirv c.in_ok-keep_rules.ensures none
