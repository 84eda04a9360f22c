use Rattle.std.proofs.Common.{◌≡◌, ◌<◌, ◌≤◌, ◌++◌, ℕ, min, length, take, get_or, arith, ap, ap₂, sym, ◌∙◌}
use Rattle.std.specs.List.{zip}
use Rattle.std.proofs.lemmas.Slice.Zip.{length-zip, get_or-zip}
use Rattle.std.proofs.lemmas.List.{take_all}
use Rattle.inst_walk.specs.declared.body.Body.{Body}
use Rattle.ll_tree.specs.declared.inst.Inst.{Inst}
use Rattle.ll_tree.specs.declared.module.Function.{Function}
use Rattle.ll_phrases.specs.Phrases.{each_phrase, written}
use Rattle.ll_printed.specs.ModulePhrases.{function_phrase}
use Rattle.ll_op_printer.proofs.Lists.{each_more}
use Rattle.ll_printer.proofs.functions.push_functions.Goals as goal

pub loop-i-preserved : goal.loop-i-preserved
loop-i-preserved c =
    let functions = c.args.functions.now in
    let bodies = c.args.bodies.now in
    let i = c.loop-i.i in
    let below = c.loop-i-test.true in
    let counted = c.min-i-end.ensures in
    let first : i < length functions = omega (arith, below, counted) in
    let second : i < length bodies = omega (arith, below, counted) in
    let both : i < length (zip functions bodies) = rw (length-zip functions bodies) (omega (arith, first, second)) in
    let d : Function × Body Inst ℕ = (c.index-functions-i.result, c.index-bodies-i.result) in
    let here : d ≡ get_or (zip functions bodies) i d =
    ap₂ (λ (f : Function) (b : Body Inst ℕ). (f, b)) c.index-functions-i.is c.index-bodies-i.is ∙ sym (get_or-zip functions bodies i d first second) in
    each_more (function_phrase c.args.names.now) (zip functions bodies) i d _ _ _ both c.loop-i.invariant
    (c.in_ok-push_function.ensures ∙ ap (λ pair. c.loop-i.text.items ++ written (function_phrase c.args.names.now pair)) here)

pub returns : goal.returns
returns c =
    let functions = c.args.functions.now in
    let bodies = c.args.bodies.now in
    let past = c.loop-i-test.false in
    let counted = c.min-i-end.ensures in
    let le : length (zip functions bodies) ≤ c.loop-i.i = rw (length-zip functions bodies) (omega (arith, past, counted)) in
    c.loop-i.invariant ∙ ap (λ xs. c.args.text.now.items ++ written (each_phrase (function_phrase c.args.names.now) xs)) (take_all c.loop-i.i (zip functions bodies) le)
