use Rattle.std.proofs.Common.{◌≡◌, sym, ◌∙◌, None, Some, ap}
use Rattle.std.specs.Option.{option_copied}
use Rattle.spv_names.specs.Definitions.{entry_of}
use Rattle.spv_names.proofs.Found.{defined-at, defined-later, defined-nowhere}
use Rattle.spv_names.proofs.definitions.Definitions.find.Goals as goal

pub returns-in_err-definition : goal.returns-in_err-definition
returns-in_err-definition c =
    let none : entry_of c.args.insts.now c.args.id ≡ None = sym (c.requires c.args.id) ∙ (sym c.entry.ensures ∙ c.in_err-definition.was) in
    ap option_copied c.from_residual.ensures ∙ sym (defined-nowhere c.args.insts.now c.args.id c.args.before none)

pub returns-then-definition-before : goal.returns-then-definition-before
returns-then-definition-before c =
    let is : entry_of c.args.insts.now c.args.id ≡ Some c.in_ok-definition.definition = sym (c.requires c.args.id) ∙ (sym c.entry.ensures ∙ c.in_ok-definition.was) in
    c.at.ensures ∙ sym (defined-at c.args.insts.now c.args.id c.args.before c.in_ok-definition.definition is c.if-definition-before.true)

pub returns-else-definition-before : goal.returns-else-definition-before
returns-else-definition-before c =
    let is : entry_of c.args.insts.now c.args.id ≡ Some c.in_ok-definition.definition = sym (c.requires c.args.id) ∙ (sym c.entry.ensures ∙ c.in_ok-definition.was) in
    sym (defined-later c.args.insts.now c.args.id c.args.before c.in_ok-definition.definition is c.if-definition-before.false)
