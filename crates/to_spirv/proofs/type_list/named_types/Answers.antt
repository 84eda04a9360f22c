use Rattle.to_spirv.proofs.TypeLemmas.{named_types-added}
use Rattle.to_spirv.proofs.type_list.named_types.Goals as goal

pub returns : goal.returns
returns c =
    named_types-added c.args.needed c.args.ids c.args.params.now c.in_ok-types.types c.add.new.self c.add_behind.new.types c.in_ok-function.function
    c.type_name.result c.requires.ids c.in_ok-types.ensures c.in_ok-function.ensures c.in_ok-add.ensures.added c.type_name.ensures c.in_ok-add_behind.ensures
