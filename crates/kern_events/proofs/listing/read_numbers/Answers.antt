use Rattle.std.proofs.Common.{◌∙◌, ap}
use Rattle.kern_events.proofs.NumberLemmas.{reading_of-start, fault_comma, fault_digit, read_comma, read_digit}
use Rattle.kern_events.proofs.listing.read_numbers.Goals as goal
use Rattle.kern_events.proofs.listing.read_numbers.Goals.{then-byte-eq44+in-Some+in_ok-push, else-byte-eq44+in-Some-with_digit}

pub loop-place-init : goal.loop-place-init
loop-place-init c = rw c.new-numbers.ensures.items (reading_of-start c.args.text.now)

pub returns-in_default-clause-fault : goal.returns-in_default-clause-fault
returns-in_default-clause-fault c =
    let l = c.loop-place in
    fault_comma c.args.text.now c.as_bytes-bytes.result.now l.place l.numbers.items l.begun c.as_bytes-bytes.ensures.value c.loop-place-test.true l.invariant c.if-byte-eq44.true c.in_default.not-Some

pub returns-in_default-with_digit-clause-fault : goal.returns-in_default-with_digit-clause-fault
returns-in_default-with_digit-clause-fault c =
    let l = c.loop-place in
    fault_digit c.args.text.now c.as_bytes-bytes.result.now l.place l.numbers.items l.begun c.with_digit.result c.as_bytes-bytes.ensures.value c.loop-place-test.true l.invariant c.if-byte-eq44.false c.with_digit.ensures c.in_default-with_digit.not-Some

pub loop-place-preserved : goal.loop-place-preserved
loop-place-preserved c =
    let l = c.loop-place in
    elim c.if-byte-eq44.branch [
      | then-byte-eq44+in-Some+in_ok-push w ↦
          read_comma c.as_bytes-bytes.result.now l.place w.in-Some.number l.numbers.items c.if-byte-eq44.numbers.items l.begun c.if-byte-eq44.begun c.loop-place-test.true l.invariant w.if-byte-eq44.true w.in-Some.is (ap (λ v. v.items) w.numbers-is ∙ w.in_ok-push.ensures.items) w.begun-is
      | else-byte-eq44+in-Some-with_digit w ↦
          read_digit c.as_bytes-bytes.result.now l.place w.in-Some-with_digit.number l.numbers.items c.if-byte-eq44.numbers.items l.begun c.if-byte-eq44.begun c.loop-place-test.true l.invariant w.if-byte-eq44.false w.in-Some-with_digit.ensures (ap (λ v. v.items) w.numbers-is) w.begun-is
    ]
