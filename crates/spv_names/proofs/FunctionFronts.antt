-- Where a function section no longer begins a list of functions.
use Rattle.std.proofs.Common.{◌≡◌, ℕ, true, List, [], ◌∷◌, ◌++◌, Option, Some, None, refl, ap, sym, ◌∙◌}
use Rattle.std.proofs.lemmas.List.{append-nil}
use Rattle.spv_codec.specs.declared.module.RawInst.{RawInst}
use Rattle.spv_names.specs.declared.functions.Part.{Part}
use Rattle.spv_names.specs.declared.functions.Part.TheVariants.{Start, Parameter, Label, Inner, Terminator, End, Floating, Stray}
use Rattle.spv_names.specs.declared.functions.Position.{Position}
use Rattle.spv_names.specs.declared.functions.Position.TheVariants.{Outside, Heading, Block, BetweenBlocks}
use Rattle.spv_names.specs.Functions.{Begins, part_of, put_part, parts_of, position_behind, places_from, misfits, function_section}
use Rattle.spv_names.specs.Laws.{MisfitIsFirst, UnfinishedIsAtTheEnd}
use Rattle.spv_names.proofs.FunctionLists.{next, step, accepts, not_true, behind-floating, accepts-functions, rest-of}

abbrev then_at : Option Position → (Position → Option Position) → Option Position
then_at None go = None
then_at (Some position) go = go position

-- where one stands behind parts
abbrev run : List Part → Position → Option Position
run [] position = Some position
run (part ∷ parts) position = then_at (step part position) (run parts)

accepts-run : (xs ys : List Part) (position : Position) → accepts (xs ++ ys) position ≡ next (accepts ys) (run xs position)
accepts-run [] ys position = refl
accepts-run (x ∷ xs) ys position = by_step (accepts-run xs ys) (step x position)
  where
    by_step : ((p : Position) → accepts (xs ++ ys) p ≡ next (accepts ys) (run xs p))
        → (o : Option Position) → next (accepts (xs ++ ys)) o ≡ next (accepts ys) (then_at o (run xs))
    by_step rest None = refl
    by_step rest (Some p) = rest p

run-append : (xs ys : List Part) (position : Position) → run (xs ++ ys) position ≡ then_at (run xs position) (run ys)
run-append [] ys position = refl
run-append (x ∷ xs) ys position = by_step (run-append xs ys) (step x position)
  where
    by_step : ((p : Position) → run (xs ++ ys) p ≡ then_at (run xs p) (run ys))
        → (o : Option Position) → then_at o (run (xs ++ ys)) ≡ then_at (then_at o (run xs)) (run ys)
    by_step rest None = refl
    by_step rest (Some p) = rest p

-- parts that end a function from a position
abbrev ending : Position → List Part
ending Outside = []
ending Heading = Label ∷ Terminator ∷ End ∷ []
ending Block = Terminator ∷ End ∷ []
ending BetweenBlocks = End ∷ []

accepts-ending : (position : Position) → accepts (ending position) position ≡ true
accepts-ending Outside = refl
accepts-ending Heading = refl
accepts-ending Block = refl
accepts-ending BetweenBlocks = refl

record Reaches (o : Option Position) : Type 0 where
  position : Position
  is : o ≡ Some position

-- what begins a list of functions leads somewhere
begins-runs : (parts : List Part) → Begins parts → Reaches (run parts Outside)
begins-runs parts b =
    by_run (run parts Outside) (sym (accepts-run parts b.0 Outside) ∙ (ap (λ xs. accepts xs Outside) b.2 ∙ accepts-functions b.1))
  where
    by_run : (o : Option Position) → next (accepts b.0) o ≡ true → Reaches o
    by_run None e = not_true e
    by_run (Some p) e = record { position = p; is = refl }

runs-begins : (parts : List Part) (position : Position) → run parts Outside ≡ Some position → Begins parts
runs-begins parts position e =
    let r = rest-of (parts ++ ending position) Outside (accepts-run parts (ending position) Outside ∙ (ap (next (accepts (ending position))) e ∙ accepts-ending position)) in
    (ending position, r.0, r.1)

-- what begins none leads nowhere
stops : (parts : List Part) → (Begins parts → ⊥) → run parts Outside ≡ None
stops parts none = by_run (run parts Outside) (runs-begins parts)
  where
    by_run : (o : Option Position) → ((p : Position) → o ≡ Some p → Begins parts) → o ≡ None
    by_run None begins = refl
    by_run (Some p) begins = absurd (none (begins p refl))

parts-append : (xs ys : List RawInst) → parts_of (xs ++ ys) ≡ parts_of xs ++ parts_of ys
parts-append [] ys = refl
parts-append (x ∷ xs) ys = ap (put_part (part_of x)) (parts-append xs ys) ∙ put-append (part_of x) (parts_of xs) (parts_of ys)
  where
    put-append : (part : Part) (xs ys : List Part) → put_part part (xs ++ ys) ≡ put_part part xs ++ ys
    put-append Start xs ys = refl
    put-append Parameter xs ys = refl
    put-append Label xs ys = refl
    put-append Inner xs ys = refl
    put-append Terminator xs ys = refl
    put-append End xs ys = refl
    put-append Floating xs ys = refl
    put-append Stray xs ys = refl

-- one part moves the position as the instruction does
run-put : (part : Part) (parts : List Part) (position : Position) → run (put_part part parts) position ≡ then_at (position_behind position part) (run parts)
run-put Start parts position = refl
run-put Parameter parts position = refl
run-put Label parts position = refl
run-put Inner parts position = refl
run-put Terminator parts position = refl
run-put End parts position = refl
run-put Floating parts position = sym (ap (λ o. then_at o (run parts)) (behind-floating position))
run-put Stray parts position = refl

-- where instructions lead somewhere, the places are those of what follows from there
misfits-behind : (words : ℕ) (before after : List RawInst) (position to : Position) → run (parts_of before) position ≡ Some to
    → misfits words (before ++ after) position ≡ misfits words after to
misfits-behind words [] after position to e = ap (from_some position) e
  where
    from_some : Position → Option Position → List ℕ
    from_some p None = misfits words after p
    from_some p (Some q) = misfits words after q
misfits-behind words (x ∷ xs) after position to e =
    by_next (misfits-behind words xs after) (position_behind position (part_of x)) (sym (run-put (part_of x) (parts_of xs) position) ∙ e)
  where
    by_next : ((p q : Position) → run (parts_of xs) p ≡ Some q → misfits words (xs ++ after) p ≡ misfits words after q)
        → (o : Option Position) → then_at o (run (parts_of xs)) ≡ Some to → places_from x.place (misfits words (xs ++ after)) o ≡ misfits words after to
    by_next rest None h = none_some h
      where
        none_some : {P : Type 0} → None ≡ Some to → P
        none_some z = cc
    by_next rest (Some p) h = rest p to h

pub misfit-first : MisfitIsFirst
misfit-first insts before after inst words split begins none =
    let reached = begins-runs (parts_of before) begins in
    let stopped = stops (parts_of (before ++ inst ∷ [])) none in
    let at : then_at (position_behind reached.position (part_of inst)) (run []) ≡ None =
    sym (run-put (part_of inst) [] reached.position)
    ∙ (sym (ap (λ o. then_at o (run (put_part (part_of inst) []))) reached.is)
    ∙ (sym (run-append (parts_of before) (put_part (part_of inst) []) Outside)
    ∙ (ap (λ xs. run xs Outside) (sym (parts-append before (inst ∷ []))) ∙ stopped))) in
    ap (λ xs. misfits words xs Outside) split
    ∙ (misfits-behind words before (inst ∷ after) Outside reached.position reached.is
    ∙ ap (places_from inst.place (misfits words after)) (by_behind (position_behind reached.position (part_of inst)) at))
  where
    by_behind : (o : Option Position) → then_at o (run []) ≡ None → o ≡ None
    by_behind None e = refl
    by_behind (Some p) e = sym (sym e)

pub unfinished-end : UnfinishedIsAtTheEnd
unfinished-end insts words begins none =
    let section = function_section insts in
    let reached = begins-runs (parts_of section) begins in
    ap (λ xs. misfits words xs Outside) (sym (append-nil section))
    ∙ (misfits-behind words section [] Outside reached.position reached.is ∙ by_position reached.position reached.is)
  where
    by_position : (p : Position) → run (parts_of (function_section insts)) Outside ≡ Some p → misfits words [] p ≡ words ∷ []
    by_position Outside e =
        absurd (none (rest-of (parts_of (function_section insts)) Outside
        (ap (λ xs. accepts xs Outside) (sym (append-nil (parts_of (function_section insts)))) ∙ (accepts-run (parts_of (function_section insts)) [] Outside ∙ ap (next (accepts [])) e))))
    by_position Heading e = refl
    by_position Block e = refl
    by_position BetweenBlocks e = refl
