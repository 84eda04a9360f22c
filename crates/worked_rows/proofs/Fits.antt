-- Instructions that fit.
use Rattle.std.proofs.Common.{List, [], ◌∷◌, ◌++◌, ◌<◌, All, length}
use Rattle.std.proofs.lemmas.List.Elements.{All-nil, All-cons}
use Rattle.spv_codec.specs.declared.module.RawInst.{RawInst}
use Rattle.spv_codec.specs.Instructions.{AllFit}

-- the instructions that fit can be written
pub AllFit-short : (before insts : List RawInst) → AllFit before insts → All (λ inst. length inst.operands < 65535) insts
AllFit-short before [] fit = All-nil (λ inst. length inst.operands < 65535)
AllFit-short before (inst ∷ insts) fit =
    All-cons (λ i. length i.operands < 65535) inst insts fit.0.short (AllFit-short (before ++ inst ∷ []) insts fit.1)
