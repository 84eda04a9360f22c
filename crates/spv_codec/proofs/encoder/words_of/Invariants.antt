use Rattle.std.proofs.Common.{◌≡◌, ◌∷◌, take}
use Rattle.spv_words.specs.declared.words.TheConstants.{MAGIC}
use Rattle.spv_codec.specs.Instructions.{spellings}
use Rattle.spv_codec.proofs.encoder.words_of.Given as goal

abbrev pub invariant-loop-inst : goal.invariant-loop-inst
invariant-loop-inst l =
    l.words.items ≡ MAGIC ∷ l.raw.version ∷ l.raw.generator ∷ l.raw.bound ∷ 0 ∷ spellings (take l.inst-index l.raw.insts)
