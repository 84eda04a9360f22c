use Rattle.std.proofs.Common.{sym, Some, None}
use Rattle.spv_layout.proofs.ExtraLemmas.{extra_operands_of-found}
use Rattle.spv_layout.proofs.operands.EnumKind.extra_operands.Goals as goal

pub returns-in-Some : goal.returns-in-Some
returns-in-Some c =
    sym (extra_operands_of-found c.args.self c.is_mask.result c.args.word c.enumerants.result.now (Some c.in-Some.enumerant) c.is_mask.ensures c.enumerants.ensures c.in-Some.ensures)

pub returns-in-None : goal.returns-in-None
returns-in-None c =
    sym (extra_operands_of-found c.args.self c.is_mask.result c.args.word c.enumerants.result.now None c.is_mask.ensures c.enumerants.ensures c.in-None.ensures)
