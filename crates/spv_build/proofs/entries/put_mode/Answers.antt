use Rattle.std.proofs.Common.{◌≡◌, ℕ, [], ◌∷◌, ◌++◌, Option, Some, None, refl, set, ap, ap₂, sym, ◌∙◌, arith}
use Rattle.spv_module.specs.declared.module.Entry.{Entry}
use Rattle.spv_module.specs.declared.module.Mode.{Mode}
use Rattle.spv_build.proofs.ModeLists.{put-none, put-at, indexed-within}
use Rattle.spv_build.proofs.entries.put_mode.Goals as goal

none_from : (o : Option ℕ) → ((index : ℕ) → o ≡ Some index → ⊥) → o ≡ None
none_from None h = refl
none_from (Some index) h = absurd (h index refl)

pub returns-in_default : goal.returns-in_default
returns-in_default c =
    let given = c.args.given.now in
    sym (put-none given c.args.entries.now.items (sym (c.requires given.function) ∙ (sym c.index_of.ensures ∙ none_from c.index_of.result c.in_default.not-Some)))

pub index_mut-requires : goal.index_mut-requires
index_mut-requires c =
    let given = c.args.given.now in
    let found = sym (c.requires given.function) ∙ (sym c.index_of.ensures ∙ c.in-Some.is) in
    omega (arith, indexed-within c.args.entries.now.items given.function c.in-Some.index found, c.args.entries.now.ok.0)

pub returns : goal.returns
returns c =
    let given = c.args.given.now in
    let entries = c.args.entries.now.items in
    let found = sym (c.requires given.function) ∙ (sym c.index_of.ensures ∙ c.in-Some.is) in
    let entry = c.in_ok-push_mode.ensures ∙ ap₂ (λ (e : Entry) (m : Mode). let r : Entry = record e { modes = e.modes ++ m ∷ [] } in r) c.index_mut.ensures.value c.in_ok-copied.ensures in
    ap (set entries c.in-Some.index) entry ∙ sym (put-at given entries c.in-Some.index c.index_mut.result.now found)
