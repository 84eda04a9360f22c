use Rattle.std.proofs.Common.{◌≡◌, map, take}
use Rattle.to_spirv.specs.Partner.{inst_partner}
use Rattle.to_spirv.proofs.body.inst_partners.Given as goal

abbrev pub invariant-loop-inst : goal.invariant-loop-inst
invariant-loop-inst l = l.all.items ≡ map (inst_partner l.ids) (take l.inst-index l.insts)
