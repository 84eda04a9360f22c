-- What is refused is too long, or something in it is due to be refused, and what is answered is neither.
use Rattle.std.proofs.Common.{◌≡◌, ℕ, ◌≤◌, inl, inr, List, ◌++◌, length, sym, ◌∙◌, ap, subst, append-nil, length-append, arith}
use Rattle.std.specs.Prelude.{Option, Some, None}
use Rattle.ports.specs.Streams.{GivesSome, GivesCount}
use Rattle.kt_driver.specs.declared.refusals.Refusal.{Refusal}
use Rattle.kt_driver.specs.declared.refusals.Refusal.TheVariants.{TooLong, UndefinedName, Outside, Unreadable, Misframed, Invalid}
use Rattle.kt_driver.specs.declared.request.Request.{Request}
use Rattle.kt_driver.specs.declared.request.Format.{Format}
use Rattle.kt_driver.specs.declared.request.Format.TheVariants.{Llvm, Spirv}
use Rattle.kt_driver.specs.declared.request.Request.TheVariants.{Translate, Show}
use Rattle.kt_driver.specs.Runs.{IsAnswer, IsDue, IsFree, IsListed, IsRefusedFor, IsUnlisted, ReadsAnswered, ReadsFor, ReadsRefused, ReadsWhole}
use Rattle.kernel_translation.proofs.Sources.{not-stuck}
use Rattle.kt_driver.proofs.Refused.{text-not-refused, translation-not-refused}
use Rattle.spv_codec.proofs.FramingLaws.{module-or_fault}

-- more was given than there is
too-many : (input : List ℕ) (old new : Option (List ℕ)) → old ≡ Some input → length input ≤ 16777216 → GivesCount 16777217 old new → ⊥
too-many input old None is within gives = let no : Some input ≡ None = sym is ∙ gives.gives in absurd cc
too-many input old (Some rest) is within gives =
    let same : Some input ≡ Some (gives.given ++ rest) = sym is ∙ gives.gives in
    let parts : input ≡ gives.given ++ rest = cc in
    omega (arith, ap length parts, length-append gives.given rest, gives.counts)

-- a source that was read to its end gave all that it had
whole-is : (input given : List ℕ) (old new : Option (List ℕ)) → old ≡ Some input → ReadsWhole given old new → given ≡ input
whole-is input given old None is reads = let no : Some input ≡ None = sym is ∙ reads.gives in absurd cc
whole-is input given old (Some rest) is reads =
    let same : Some input ≡ Some (given ++ rest) = sym is ∙ reads.gives in
    let parts : input ≡ given ++ rest = cc in
    sym (append-nil given) ∙ sym (ap (λ xs. given ++ xs) reads.at_end) ∙ sym parts

refused-due : (request : Request) (refusal : Refusal) (input : List ℕ) (old new : Option (List ℕ)) → old ≡ Some input
    → ((other : Refusal) → IsDue request input other → ⊥) → ReadsRefused request refusal old new → ⊥
refused-due request refusal input old new is free reads =
    let P : List ℕ → Type 0 = λ xs. IsDue request xs refusal in
    free refusal (subst P (whole-is input reads.input old new is reads.reads) reads.due)

-- nothing is refused in an input that is free
pub free-not_refused : (request : Request) (refusal : Refusal) (input : List ℕ) (old new : Option (List ℕ)) → old ≡ Some input
    → IsFree (Some request) input → ReadsFor request refusal old new → ⊥
free-not_refused request (TooLong format) input old new is free reads = too-many input old new is free.0 reads.1
free-not_refused request (UndefinedName byte) input old new is free reads = refused-due request (UndefinedName byte) input old new is free.1 reads
free-not_refused request (Outside format) input old new is free reads = refused-due request (Outside format) input old new is free.1 reads
free-not_refused request (Unreadable fault) input old new is free reads = refused-due request (Unreadable fault) input old new is free.1 reads
free-not_refused request (Misframed fault) input old new is free reads = refused-due request (Misframed fault) input old new is free.1 reads
free-not_refused request (Invalid fault) input old new is free reads = refused-due request (Invalid fault) input old new is free.1 reads

-- what is read for a refusal is some bytes
pub GivesSome-ReadsFor : (request : Request) (refusal : Refusal) (old new : Option (List ℕ)) → ReadsFor request refusal old new → GivesSome old new
GivesSome-ReadsFor request (TooLong format) old new reads = record { given = reads.1.given; gives = reads.1.gives }
GivesSome-ReadsFor request (UndefinedName byte) old new reads = record { given = reads.input; gives = reads.reads.gives }
GivesSome-ReadsFor request (Outside format) old new reads = record { given = reads.input; gives = reads.reads.gives }
GivesSome-ReadsFor request (Unreadable fault) old new reads = record { given = reads.input; gives = reads.reads.gives }
GivesSome-ReadsFor request (Misframed fault) old new reads = record { given = reads.input; gives = reads.reads.gives }
GivesSome-ReadsFor request (Invalid fault) old new reads = record { given = reads.input; gives = reads.reads.gives }

listed-not-refused : (format : Format) (input bytes : List ℕ) (refusal : Refusal) → IsListed format input bytes → IsUnlisted format input refusal → ⊥
listed-not-refused format input bytes (TooLong other) is due = due
listed-not-refused format input bytes (UndefinedName byte) is due = due
listed-not-refused format input bytes (Outside other) is due = due
listed-not-refused Llvm input bytes (Unreadable fault) is due =
    elim due [ inl encoding ↦ encoding.no_text is.utf8 | inr token ↦ not-stuck input is.tokens fault.byte is.are_tokens token.2 ]
listed-not-refused Spirv input bytes (Unreadable fault) is due = due
listed-not-refused Llvm input bytes (Misframed fault) is due = due
listed-not-refused Spirv input bytes (Misframed fault) is due = module-or_fault input is.raw fault is.spirv due
listed-not-refused format input bytes (Invalid fault) is due = due

answer-not-refused : (request : Request) (input bytes : List ℕ) (refusal : Refusal) → IsAnswer request input bytes → IsDue request input refusal → ⊥
answer-not-refused (Translate Llvm to order) input bytes refusal is due = translation-not-refused order input bytes refusal is.there due
answer-not-refused (Translate Spirv to order) input bytes refusal is due = text-not-refused input bytes refusal is.there due
answer-not-refused (Show from) input bytes refusal is due = listed-not-refused from input bytes refusal is due

-- nothing is refused in an input that is answered
pub answered-not_refused : (request : Request) (refusal : Refusal) (input bytes : List ℕ) (old new : Option (List ℕ)) → old ≡ Some input
    → ReadsAnswered request bytes old new → IsRefusedFor (Some request) input refusal → ⊥
answered-not_refused request refusal input bytes old new is reads (inl due) =
    let P : List ℕ → Type 0 = λ xs. IsDue request xs refusal in
    answer-not-refused request reads.input bytes refusal reads.answer (subst P (sym (whole-is input reads.input old new is reads.reads)) due.1)
answered-not_refused request refusal input bytes old new is reads (inr long) =
    omega (arith, long.0, reads.reads.within, ap length (whole-is input reads.input old new is reads.reads))
