use Rattle.std.proofs.Common.{ap}
use Rattle.ll_tokens.specs.Tokens.{lexemes_of}
use Rattle.kernel_translation.proofs.Sources.{stuck-no-kernel, tokens-no-kernel}
use Rattle.kernel_translation.proofs.text.kernel_of.Goals as goal

pub returns-in-Err-Fault : goal.returns-in-Err-Fault
returns-in-Err-Fault c =
    let fault = rw c.in-Err-Fault.field-0-is at c.in-Err-Fault.ensures.fault in
    stuck-no-kernel c.args.input.now c.in-Ok.text.now _ c.in-Ok.ensures.0 fault.1

pub returns-in-Err-Outside : goal.returns-in-Err-Outside
returns-in-Err-Outside c =
    let none = rw c.in-Err-Outside.field-0-is at c.in-Err-Outside.ensures in
    tokens-no-kernel c.args.input.now c.in-Ok.text.now (lexemes_of c.in-Ok-tokens.tokens.items) (lexemes_of c.deref.result.now) c.in-Ok.ensures.0
    c.in-Ok-tokens.ensures.exact (ap lexemes_of c.deref.ensures.value) none
