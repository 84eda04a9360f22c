use Rattle.std.proofs.Common.{◌≡◌, ◌++◌, ◌∷◌, []}
use Rattle.spv_codec.proofs.InstLemmas.{Progress-turn}
use Rattle.spv_codec.proofs.instructions.read_instructions.Goals as goal

pub loop-first-preserved : goal.loop-first-preserved
loop-first-preserved c =
    let pushed : c.push.new.self ≡ c.loop-first.insts ++ c.in-Ok.inst ∷ [] = c.in_ok-push-in-Ok.ensures.ok in
    Progress-turn _ _ _ _ _ _ _ c.in-Some.behind.now c.in-Some.first _ _ c.in-Ok.inst c.loop-first.invariant c.in-Some.ensures c.in-Ok.ensures.inst c.words_from-rest.ensures c.len-len.ensures pushed
