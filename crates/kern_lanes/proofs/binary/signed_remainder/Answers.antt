use Rattle.kern_lanes.proofs.SignedLemmas.{CanDivide-from_fits, ne_zero_from_signed_trap}
use Rattle.kern_lanes.proofs.binary.signed_remainder.Goals as goal

pub nonzero_rem-signed_value : goal.nonzero_rem-signed_value
nonzero_rem-signed_value c =
    let x = c.signed_value in
    let y = c.signed_value-2 in
    CanDivide-from_fits x.result y.result x.ensures.fits y.ensures.fits
    (λ e. ne_zero_from_signed_trap c.args.w c.args.a c.args.b _ c.in_ok-check_signed_division.ensures (y.ensures.zero e))
