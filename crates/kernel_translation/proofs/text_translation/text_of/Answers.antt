use Rattle.std.proofs.Common.{length, ap, arith}
use Rattle.kernel_translation.proofs.Back.{too-long}
use Rattle.kernel_translation.proofs.text_translation.text_of.Goals as goal

pub returns-then-len-gt-MAX_BYTES : goal.returns-then-len-gt-MAX_BYTES
returns-then-len-gt-MAX_BYTES c =
    let found = rw c.in-Some.is at c.in_ok-kernel.ensures in
    too-long c.args.raw.now c.in-Some.kernel found.0 found.1
    (λ short. omega (arith, c.len.ensures, ap length c.in_ok-text.ensures, c.if-len-gt-MAX_BYTES.true))
