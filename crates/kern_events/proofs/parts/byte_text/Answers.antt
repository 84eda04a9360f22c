use Rattle.std.proofs.Common.{◌∙◌, false, rules}
use Rattle.std.proofs.lemmas.Fmt.{hex_byte}
use Rattle.kern_events.proofs.parts.byte_text.Goals as goal

pub returns : goal.returns
returns c =
    let written = rw (c.laid_out.ensures, c.in_radix.ensures) at c.in_ok-format.ensures.ok in
    written ∙ hex_byte false c.args.byte (search rules)
