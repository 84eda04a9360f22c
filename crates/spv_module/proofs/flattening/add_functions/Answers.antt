use Rattle.std.proofs.Common.{◌<◌, ◌≤◌, ◌++◌, ℕ, min, length, take, flat_map, arith, ap, ap₂, ◌∙◌}
use Rattle.inst_walk.specs.declared.body.Body.{Body}
use Rattle.spv_module.specs.declared.inst.SpvInst.{SpvInst}
use Rattle.spv_module.specs.declared.module.Function.{Function}
use Rattle.std.specs.List.{zip}
use Rattle.std.proofs.lemmas.List.{append_assoc}
use Rattle.spv_module.specs.Sections.{body_spelled}
use Rattle.spv_module.proofs.ZipLemmas.{zipped_more, zipped_all}
use Rattle.spv_module.proofs.flattening.add_functions.Goals as goal

pub loop-i-preserved : goal.loop-i-preserved
loop-i-preserved c =
    let functions = c.args.functions.now in
    let bodies = c.args.bodies.now in
    let i = c.loop-i.i in
    let below = c.loop-i-test.true in
    let counted = c.min-i-end.ensures in
    let first : i < length functions = omega (arith, below, counted) in
    let second : i < length bodies = omega (arith, below, counted) in
    let front = flat_map body_spelled (take i (zip functions bodies)) in
    let more = zipped_more body_spelled functions bodies i c.index-functions-i.result c.index-bodies-i.result first second in
    rw (c.in_ok-add_function.ensures, c.loop-i.invariant, append_assoc)
    (ap (λ xs. c.args.insts.now.items ++ xs) (ap₂ (λ (f : Function) (b : Body SpvInst ℕ). front ++ body_spelled (f, b)) c.index-functions-i.is c.index-bodies-i.is ∙ more))

pub returns : goal.returns
returns c =
    let functions = c.args.functions.now in
    let bodies = c.args.bodies.now in
    let past = c.loop-i-test.false in
    let counted = c.min-i-end.ensures in
    let le : min (length functions) (length bodies) ≤ c.loop-i.i = omega (arith, past, counted) in
    c.loop-i.invariant ∙ ap (λ xs. c.args.insts.now.items ++ flat_map body_spelled xs) (zipped_all functions bodies c.loop-i.i le)
