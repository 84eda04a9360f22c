-- The parts of heads of functions: which fronts of tokens are one, whatever values and names they stand for, and where and by which
-- rule tokens are refused that are to begin with one (LLVM 14, Functions).
use Rattle.std.specs.Prelude.{ℕ, Bool, List, codes}
use Rattle.ll_tokens.specs.declared.kinds.TokenKind.TheVariants.{Local as LocalToken}
use Rattle.ll_tree.specs.declared.module.Linkage.{Linkage}
use Rattle.ll_tree.specs.declared.module.NodeRef.{NodeRef}
use Rattle.ll_parser.specs.GrammarItems.{unnamed}
use Rattle.ll_parser.specs.NameReading.{any_of}
use Rattle.ll_parser.specs.Productions.{Production, word, mark}
use Rattle.ll_operands.specs.Parts.{Part, any, either, global_part, local_part, mark_part, optional, repeated, ◌then◌, type_part, word_part}
use Rattle.ll_attributes.specs.Attachments.{AttachmentsFail, attachments_here}
use Rattle.ll_attributes.specs.AttributeParts.{attributes_here}
use Rattle.ll_attributes.specs.AttributeRefusals.{AttributesFail}
use Rattle.ll_attributes.specs.FunctionAttributes.{FunctionAttributesFail, function_attributes_here}
use Rattle.ll_attributes.specs.Heads.{convention_here, linkage_here}
use Rattle.ll_attributes.specs.Lists.{maybe_here}

abbrev pub attributes_part : Part
attributes_part = record { begins = any attributes_here; stops = AttributesFail }

abbrev pub name_part : Part
name_part = optional (any_of LocalToken) local_part

abbrev pub param_part : Part
param_part = type_part then attributes_part then name_part

-- a parameter behind a comma, 44
abbrev pub next_part : Part
next_part = mark_part 44 then param_part

abbrev pub some_part : Part
some_part = param_part then repeated (mark 44) next_part

-- parameters, if there are any, and the `)`, 41, behind them
abbrev pub params_part : Part
params_part = either (mark 41) (mark_part 41) (some_part then mark_part 41)

-- words of which none needs to stand are never refused
abbrev pub never_refused : Production → Part
never_refused begins = record { begins = begins; stops = λ tokens refusal. ⊥ }

abbrev pub linkage_part : Part
linkage_part = never_refused (λ tokens rest. (l : Linkage) × linkage_here l tokens rest)

abbrev pub convention_part : Part
convention_part = never_refused (λ tokens rest. (is_kernel : Bool) × convention_here is_kernel tokens rest)

-- what stands before the parameters
abbrev pub front_part : Part
front_part =
    linkage_part then never_refused (maybe_here (word (codes "dso_local"))) then convention_part then attributes_part then type_part then global_part

-- what stands behind them
abbrev pub back_part : Part
back_part =
    never_refused (maybe_here unnamed) then record { begins = function_attributes_here; stops = FunctionAttributesFail }

-- a head behind its first word, 40 being `(`
abbrev pub head_part : Part
head_part = front_part then mark_part 40 then params_part then back_part

abbrev pub declaration_part : Part
declaration_part = word_part (codes "declare") then head_part

abbrev pub attachments_part : Part
attachments_part = record {
  begins = λ tokens rest. (attachments : List (List ℕ × NodeRef)) × attachments_here attachments tokens rest;
  stops = AttachmentsFail;
}

-- a definition up to its `{`, 123
abbrev pub definition_part : Part
definition_part = word_part (codes "define") then head_part then attachments_part then mark_part 123
