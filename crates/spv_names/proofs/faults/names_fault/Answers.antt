use Rattle.std.proofs.Common.{◌≡◌, ◌+◌, length, ap, ap₂, ◌∙◌, arith}
use Rattle.std.specs.Option.{option_map}
use Rattle.spv_codec.specs.Framing.{module_words}
use Rattle.spv_codec.specs.Instructions.{spellings}
use Rattle.spv_names.specs.NameRules.{fault_of, names_break}
use Rattle.spv_names.proofs.faults.names_fault.Goals as goal

pub returns : goal.returns
returns c =
    let raw = c.args.raw.now in
    let all : 5 + length (spellings raw.insts) ≡ length (module_words raw) = omega arith in
    c.told_fault.ensures
    ∙ ap (option_map fault_of)
    (c.in_ok-told_break.ensures
    ∙ ap₂ (λ insts words. names_break insts raw.bound words) c.as_slice-insts.ensures
    (c.in_ok-words.ensures ∙ (ap (λ insts. 5 + length (spellings insts)) c.as_slice-insts.ensures ∙ all)))
