use Rattle.std.proofs.Common.{◌≡◌, ◌==◌, ◌∷◌, ◌++◌, [], Some, None, length, take, ap, ap₂, sym, ◌∙◌, arith}
use Rattle.std.specs.Prelude.{if◌then◌else◌}
use Rattle.std.specs.Option.{option_or}
use Rattle.std.proofs.lemmas.List.{length-take, take_more}
use Rattle.spv_build.specs.Entries.{index_of}
use Rattle.spv_build.proofs.ModeLists.{indexed-more}
use Rattle.spv_build.proofs.entries.first_indexes.Goals as goal

pub loop-index-preserved : goal.loop-index-preserved
loop-index-preserved c =
    let i = c.loop-index.index in
    let entries = c.args.entries.now in
    let entry = c.index-entries-index.result in
    let long : length (take i entries) ≡ i = omega (arith, length-take i entries) in
    let more = take_more entries i entry c.loop-index-test.true ∙ ap (λ x. take i entries ++ x ∷ []) (sym c.index-entries-index.is) in
    λ function.
    c.in_ok-note.ensures function
    ∙ (ap₂ (λ o n. option_or o (if entry.function == function then Some n else None)) (c.loop-index.invariant function) (sym long)
    ∙ (sym (indexed-more (take i entries) entry function) ∙ ap (λ es. index_of es function) (sym more)))
