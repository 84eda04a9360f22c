use Rattle.std.proofs.Common.{Ok, ap, sym, ◌∙◌, ◌≡◌}
use Rattle.std.specs.Prelude.{int_div}
use Rattle.std.specs.Int.{w128}
use Rattle.std.proofs.lemmas.Int.{quot_is}
use Rattle.kern_lanes.specs.Widths.{lane, signed_value}
use Rattle.kern_lanes.specs.Binary.{signed_trap}
use Rattle.kern_lanes.proofs.SignedLemmas.{CanDivide-from_fits, FitsSigned-wider, FitsSigned-int_div, ne_zero_from_signed_trap, unless_trapped-none}
use Rattle.kern_lanes.proofs.binary.signed_quotient.Goals as goal

pub nonzero_div-signed_value : goal.nonzero_div-signed_value
nonzero_div-signed_value c =
    let x = c.signed_value in
    let y = c.signed_value-2 in
    CanDivide-from_fits x.result y.result x.ensures.fits y.ensures.fits
    (λ e. ne_zero_from_signed_trap c.args.w c.args.a c.args.b _ c.in_ok-check_signed_division.ensures (y.ensures.zero e))

pub returns : goal.returns
returns c =
    let x = c.signed_value in
    let y = c.signed_value-2 in
    let quotient = quot_is w128 x.result y.result (FitsSigned-wider _ x.ensures.fits) (FitsSigned-wider _ y.ensures.fits) (FitsSigned-int_div _ _ x.ensures.fits) in
    let same : c.lane.result ≡ lane c.args.w (int_div (signed_value c.args.w c.args.a) (signed_value c.args.w c.args.b)) = cc in
    ap Ok same ∙ sym (unless_trapped-none (signed_trap c.args.w c.args.a c.args.b) _ _ c.in_ok-check_signed_division.ensures)
