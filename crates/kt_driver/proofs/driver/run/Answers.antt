-- An input that is refused is not free.
use Rattle.std.proofs.Common.{◌≡◌, subst, sym}
use Rattle.std.specs.Prelude.{Option, Some}
use Rattle.kt_driver.specs.declared.request.Request.{Request}
use Rattle.kt_driver.specs.Requests.{request_of, texts_of}
use Rattle.kt_driver.specs.Runs.{IsFree, IsRefusedFor}
use Rattle.kt_driver.proofs.Completeness.{answered-not_refused, free-not_refused, GivesSome-ReadsFor}
use Rattle.kt_driver.proofs.driver.run.Goals as goal

pub returns-in-Ok-write_all-2-clause-complete : goal.returns-in-Ok-write_all-2-clause-complete
returns-in-Ok-write_all-2-clause-complete g c =
    λ input is free.
    let reply = rw c.in-Ok-Refuses.field-0-is at c.in-Ok-Refuses.ensures.reply in
    let P : Option Request → Type 0 = λ request. IsFree request input in
    let asked : Some c.in-Some.request ≡ request_of (texts_of c.args.words.now) = c.in-Some.ensures in
    absurd (free-not_refused c.in-Some.request _ input _ _ is (subst P (sym asked) free) reply.1)

pub returns-in-Ok-write_all-2-clause-source_gave : goal.returns-in-Ok-write_all-2-clause-source_gave
returns-in-Ok-write_all-2-clause-source_gave g c =
    let reply = rw c.in-Ok-Refuses.field-0-is at c.in-Ok-Refuses.ensures.reply in
    GivesSome-ReadsFor c.in-Some.request _ _ _ reply.1

pub returns-in-Ok-Refuses-clause-source_gave : goal.returns-in-Ok-Refuses-clause-source_gave
returns-in-Ok-Refuses-clause-source_gave g c =
    let reply = rw c.in-Ok-Refuses.field-0-is at c.in-Ok-Refuses.ensures.reply in
    GivesSome-ReadsFor c.in-Some.request _ _ _ reply.1

pub returns-in-Ok-write_all-clause-due : goal.returns-in-Ok-write_all-clause-due
returns-in-Ok-write_all-clause-due g c =
    λ input refusal is due.
    let reply = rw c.in-Ok-Answer.field-0-is at c.in-Ok-Answer.ensures.reply in
    let P : Option Request → Type 0 = λ request. IsRefusedFor request input refusal in
    let asked : Some c.in-Some.request ≡ request_of (texts_of c.args.words.now) = c.in-Some.ensures in
    absurd (answered-not_refused c.in-Some.request refusal input _ _ _ is reply (subst P (sym asked) due))
