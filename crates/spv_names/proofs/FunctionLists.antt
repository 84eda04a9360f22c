-- The positions of a function section accept the lists of functions and nothing else.
use Rattle.std.proofs.Common.{◌≡◌, ℕ, zero, suc, Bool, true, false, List, [], ◌∷◌, ◌++◌, replicate, Option, Some, None, refl, ap, sym, ◌∙◌, append_assoc}
use Rattle.std.specs.Prelude.{flat_map}
use Rattle.spv_codec.specs.declared.module.RawInst.{RawInst}
use Rattle.spv_names.specs.declared.functions.Part.{Part}
use Rattle.spv_names.specs.declared.functions.Part.TheVariants.{Start, Parameter, Label, Inner, Terminator, End, Floating, Stray}
use Rattle.spv_names.specs.declared.functions.Position.{Position}
use Rattle.spv_names.specs.declared.functions.Position.TheVariants.{Outside, Heading, Block, BetweenBlocks}
use Rattle.spv_names.specs.Functions.{Shape, part_of, block_parts, function_parts, function_list, put_part, parts_of, position_behind, is_outside_functions, places_from, misfits, function_section}
use Rattle.spv_names.specs.Laws.{FunctionsAreListed}

abbrev pub next : (Position → Bool) → Option Position → Bool
next rest None = false
next rest (Some position) = rest position

-- where one stands behind a part that may not stand anywhere
abbrev pub step : Part → Position → Option Position
step Floating position = None
step part position = position_behind position part

-- whether parts lead from a position to the end of a function
abbrev pub accepts : List Part → Position → Bool
accepts [] position = is_outside_functions position
accepts (part ∷ parts) position = next (accepts parts) (step part position)

any_place : {P : Type 0} (place : ℕ) (places : List ℕ) → place ∷ places ≡ [] → P
any_place place places e = cc

pub not_true : {P : Type 0} → false ≡ true → P
not_true e = cc

pub behind-floating : (position : Position) → position_behind position Floating ≡ Some position
behind-floating Outside = refl
behind-floating Heading = refl
behind-floating Block = refl
behind-floating BetweenBlocks = refl

accept-next : (place : ℕ) (rest : Position → List ℕ) (accepted : Position → Bool) → ((p : Position) → rest p ≡ [] → accepted p ≡ true)
    → (o : Option Position) → places_from place rest o ≡ [] → next accepted o ≡ true
accept-next place rest accepted each None e = any_place place [] e
accept-next place rest accepted each (Some p) e = each p e

fit-next : (place : ℕ) (rest : Position → List ℕ) (accepted : Position → Bool) → ((p : Position) → accepted p ≡ true → rest p ≡ [])
    → (o : Option Position) → next accepted o ≡ true → places_from place rest o ≡ []
fit-next place rest accepted each None e = not_true e
fit-next place rest accepted each (Some p) e = each p e

pub fits-accepted : (words : ℕ) (insts : List RawInst) (position : Position) → misfits words insts position ≡ [] → accepts (parts_of insts) position ≡ true
fits-accepted words [] Outside e = refl
fits-accepted words [] Heading e = any_place words [] e
fits-accepted words [] Block e = any_place words [] e
fits-accepted words [] BetweenBlocks e = any_place words [] e
fits-accepted words (inst ∷ insts) position e = by_part (fits-accepted words insts) (part_of inst) e
  where
    by_part : ((p : Position) → misfits words insts p ≡ [] → accepts (parts_of insts) p ≡ true)
        → (part : Part) → places_from inst.place (misfits words insts) (position_behind position part) ≡ [] → accepts (put_part part (parts_of insts)) position ≡ true
    by_part rest Start h = accept-next inst.place (misfits words insts) (accepts (parts_of insts)) rest (position_behind position Start) h
    by_part rest Parameter h = accept-next inst.place (misfits words insts) (accepts (parts_of insts)) rest (position_behind position Parameter) h
    by_part rest Label h = accept-next inst.place (misfits words insts) (accepts (parts_of insts)) rest (position_behind position Label) h
    by_part rest Inner h = accept-next inst.place (misfits words insts) (accepts (parts_of insts)) rest (position_behind position Inner) h
    by_part rest Terminator h = accept-next inst.place (misfits words insts) (accepts (parts_of insts)) rest (position_behind position Terminator) h
    by_part rest End h = accept-next inst.place (misfits words insts) (accepts (parts_of insts)) rest (position_behind position End) h
    by_part rest Floating h = rest position (sym (ap (places_from inst.place (misfits words insts)) (behind-floating position)) ∙ h)
    by_part rest Stray h = accept-next inst.place (misfits words insts) (accepts (parts_of insts)) rest (position_behind position Stray) h

pub accepted-fits : (words : ℕ) (insts : List RawInst) (position : Position) → accepts (parts_of insts) position ≡ true → misfits words insts position ≡ []
accepted-fits words [] Outside e = refl
accepted-fits words [] Heading e = not_true e
accepted-fits words [] Block e = not_true e
accepted-fits words [] BetweenBlocks e = not_true e
accepted-fits words (inst ∷ insts) position e = by_part (accepted-fits words insts) (part_of inst) e
  where
    by_part : ((p : Position) → accepts (parts_of insts) p ≡ true → misfits words insts p ≡ [])
        → (part : Part) → accepts (put_part part (parts_of insts)) position ≡ true → places_from inst.place (misfits words insts) (position_behind position part) ≡ []
    by_part rest Start h = fit-next inst.place (misfits words insts) (accepts (parts_of insts)) rest (position_behind position Start) h
    by_part rest Parameter h = fit-next inst.place (misfits words insts) (accepts (parts_of insts)) rest (position_behind position Parameter) h
    by_part rest Label h = fit-next inst.place (misfits words insts) (accepts (parts_of insts)) rest (position_behind position Label) h
    by_part rest Inner h = fit-next inst.place (misfits words insts) (accepts (parts_of insts)) rest (position_behind position Inner) h
    by_part rest Terminator h = fit-next inst.place (misfits words insts) (accepts (parts_of insts)) rest (position_behind position Terminator) h
    by_part rest End h = fit-next inst.place (misfits words insts) (accepts (parts_of insts)) rest (position_behind position End) h
    by_part rest Floating h = ap (places_from inst.place (misfits words insts)) (behind-floating position) ∙ rest position h
    by_part rest Stray h = fit-next inst.place (misfits words insts) (accepts (parts_of insts)) rest (position_behind position Stray) h

-- what follows in a function behind some blocks, inside one, and behind its heading
abbrev closing : List ℕ → List Part
closing others = flat_map block_parts others ++ End ∷ []

abbrev inside : ℕ → List ℕ → List Part
inside count others = replicate count Inner ++ Terminator ∷ closing others

abbrev headed : ℕ → ℕ → List ℕ → List Part
headed params first others = replicate params Parameter ++ (block_parts first ++ closing others)

-- a block before others
block-first : (count : ℕ) (others : List Part) → block_parts count ++ others ≡ Label ∷ (replicate count Inner ++ Terminator ∷ others)
block-first count others = ap (λ xs. Label ∷ xs) (append_assoc (replicate count Inner) (Terminator ∷ []) others)

block-closing : (count : ℕ) (others : List ℕ) → closing (count ∷ others) ≡ Label ∷ inside count others
block-closing count others = append_assoc (block_parts count) (flat_map block_parts others) (End ∷ []) ∙ block-first count (closing others)

-- parts that lead from a position to the end of a function are the rest of one, and functions
abbrev Rest : Position → List Part → Type 0
Rest Outside parts = (shapes : List Shape) × (parts ≡ function_list shapes)
Rest Heading parts = (params : ℕ) × (first : ℕ) × (others : List ℕ) × (shapes : List Shape) × (parts ≡ headed params first others ++ function_list shapes)
Rest Block parts = (count : ℕ) × (others : List ℕ) × (shapes : List Shape) × (parts ≡ inside count others ++ function_list shapes)
Rest BetweenBlocks parts = (others : List ℕ) × (shapes : List Shape) × (parts ≡ closing others ++ function_list shapes)

pub rest-of : (parts : List Part) (position : Position) → accepts parts position ≡ true → Rest position parts
rest-of [] Outside e = ([], refl)
rest-of [] Heading e = not_true e
rest-of [] Block e = not_true e
rest-of [] BetweenBlocks e = not_true e
rest-of (Start ∷ parts) Outside e =
    let r = rest-of parts Heading e in
    let shape : Shape = record { params = r.0; first = r.1; others = r.2 } in
    (shape ∷ r.3, ap (λ xs. Start ∷ xs) r.4)
rest-of (Parameter ∷ parts) Heading e =
    let r = rest-of parts Heading e in
    (suc r.0, r.1, r.2, r.3, ap (λ xs. Parameter ∷ xs) r.4)
rest-of (Label ∷ parts) Heading e =
    let r = rest-of parts Block e in
    (0, r.0, r.1, r.2, ap (λ xs. Label ∷ xs) r.3 ∙ ap (λ xs. xs ++ function_list r.2) (sym (block-first r.0 (closing r.1))))
rest-of (Inner ∷ parts) Block e =
    let r = rest-of parts Block e in
    (suc r.0, r.1, r.2, ap (λ xs. Inner ∷ xs) r.3)
rest-of (Terminator ∷ parts) Block e =
    let r = rest-of parts BetweenBlocks e in
    (0, r.0, r.1, ap (λ xs. Terminator ∷ xs) r.2)
rest-of (Label ∷ parts) BetweenBlocks e =
    let r = rest-of parts Block e in
    (r.0 ∷ r.1, r.2, ap (λ xs. Label ∷ xs) r.3 ∙ ap (λ xs. xs ++ function_list r.2) (sym (block-closing r.0 r.1)))
rest-of (End ∷ parts) BetweenBlocks e =
    let r = rest-of parts Outside e in
    ([], r.0, ap (λ xs. End ∷ xs) r.1)
rest-of (part ∷ parts) position e = not_true e

accepts-inside : (count : ℕ) (parts : List Part) → accepts (replicate count Inner ++ parts) Block ≡ accepts parts Block
accepts-inside zero parts = refl
accepts-inside (suc count) parts = accepts-inside count parts

accepts-params : (count : ℕ) (parts : List Part) → accepts (replicate count Parameter ++ parts) Heading ≡ accepts parts Heading
accepts-params zero parts = refl
accepts-params (suc count) parts = accepts-params count parts

accepts-block : (count : ℕ) (parts : List Part) → accepts (Label ∷ (replicate count Inner ++ Terminator ∷ parts)) BetweenBlocks ≡ accepts parts BetweenBlocks
accepts-block count parts = accepts-inside count (Terminator ∷ parts)

accepts-first : (count : ℕ) (parts : List Part) → accepts (Label ∷ (replicate count Inner ++ Terminator ∷ parts)) Heading ≡ accepts parts BetweenBlocks
accepts-first count parts = accepts-inside count (Terminator ∷ parts)

accepts-blocks : (others : List ℕ) (parts : List Part) → accepts (flat_map block_parts others ++ parts) BetweenBlocks ≡ accepts parts BetweenBlocks
accepts-blocks [] parts = refl
accepts-blocks (count ∷ others) parts =
    ap (λ xs. accepts xs BetweenBlocks) (append_assoc (block_parts count) (flat_map block_parts others) parts ∙ block-first count (flat_map block_parts others ++ parts))
    ∙ (accepts-block count (flat_map block_parts others ++ parts) ∙ accepts-blocks others parts)

accepts-function : (shape : Shape) (parts : List Part) → accepts (function_parts shape ++ parts) Outside ≡ accepts parts Outside
accepts-function shape parts =
    ap (λ xs. accepts xs Heading)
    (append_assoc (replicate shape.params Parameter) (block_parts shape.first ++ closing shape.others) parts
    ∙ ap (λ xs. replicate shape.params Parameter ++ xs)
    (append_assoc (block_parts shape.first) (closing shape.others) parts
    ∙ (block-first shape.first (closing shape.others ++ parts)
    ∙ ap (λ xs. Label ∷ (replicate shape.first Inner ++ Terminator ∷ xs)) (append_assoc (flat_map block_parts shape.others) (End ∷ []) parts))))
    ∙ (accepts-params shape.params (Label ∷ (replicate shape.first Inner ++ Terminator ∷ (flat_map block_parts shape.others ++ End ∷ parts)))
    ∙ (accepts-first shape.first (flat_map block_parts shape.others ++ End ∷ parts) ∙ accepts-blocks shape.others (End ∷ parts)))

pub accepts-functions : (shapes : List Shape) → accepts (function_list shapes) Outside ≡ true
accepts-functions [] = refl
accepts-functions (shape ∷ shapes) = accepts-function shape (function_list shapes) ∙ accepts-functions shapes

pub functions-listed : FunctionsAreListed
functions-listed insts words =
    let section = function_section insts in (
      λ none. rest-of (parts_of section) Outside (fits-accepted words section Outside none),
      λ listed. accepted-fits words section Outside (ap (λ parts. accepts parts Outside) listed.1 ∙ accepts-functions listed.0),
    )
