use Rattle.std.proofs.Common.{◌+◌, ap, sym, ◌∙◌, drop}
use Rattle.std.proofs.lemmas.List.{at_drop_more}
use Rattle.spv_build.specs.Entries.{index_of, put_mode, put_modes}
use Rattle.spv_build.proofs.ModeLists.{indexed-put}
use Rattle.spv_build.proofs.entries.put_modes.Goals as goal

pub loop-given-preserved : goal.loop-given-preserved
loop-given-preserved c =
    let i = c.loop-given.given-index in
    let modes = c.args.modes.now in
    let given = c.given-item.result in
    let entries = c.loop-given.entries.items in
    record {
      indexed = λ function.
          c.loop-given.invariant.indexed function
          ∙ (sym (indexed-put given entries function) ∙ ap (λ es. index_of es function) (sym c.in_ok-put_mode.ensures));
      going =
          ap (put_modes (drop (i + 1) modes)) c.in_ok-put_mode.ensures
          ∙ (ap (λ x. put_modes (drop (i + 1) modes) (put_mode x entries)) c.given-item.is
          ∙ (sym (at_drop_more (λ ms. put_modes ms entries) modes i given c.loop-given-test.true) ∙ c.loop-given.invariant.going));
    }
