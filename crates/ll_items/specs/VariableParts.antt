-- The parts of which variables consist, and with all that belongs to them (LLVM 14, Global Variables).
use Rattle.std.specs.Prelude.{◌≡◌, ℕ, List, codes, Option, None, Some}
use Rattle.ll_tree.specs.declared.module.Linkage.{Linkage}
use Rattle.ll_tree.specs.declared.module.Variable.{Variable}
use Rattle.ll_tree.specs.declared.name.NameText.{NameText}
use Rattle.ll_parser.specs.GrammarInsts.{alignment}
use Rattle.ll_parser.specs.GrammarItems.{unnamed}
use Rattle.ll_parser.specs.GrammarValues.{global, value}
use Rattle.ll_parser.specs.Productions.{Production, ◌>>◌, ◌or◌, mark, word}
use Rattle.ll_parser.specs.Reading.{EndsNowhere}
use Rattle.ll_parser.specs.Spaces.{IsNoSpace, space_here}
use Rattle.ll_types.specs.TypeParts.{ty_here}
use Rattle.ll_attributes.specs.Attachments.{SkippedFail, skipped_attachments}
use Rattle.ll_attributes.specs.Heads.{linkage_here}
use Rattle.ll_attributes.specs.Lists.{maybe_here}
use Rattle.ll_operands.specs.Parts.{Part, global_part, mark_part, number_part, optional, ◌then◌, type_then, value_part, word_part}
use Rattle.ll_operands.specs.Whole.{align_comma}
use Rattle.ll_items.specs.declared.variables.Contents.{Contents}
use Rattle.ll_items.specs.ItemParts.{free, sole}

-- `global` or `constant`
abbrev pub variable_kind : Production
variable_kind = word (codes "global") or word (codes "constant")

-- what stands between a variable's `=` and its type
abbrev pub variable_head : Linkage → ℕ → Production
variable_head l value =
    linkage_here l >> maybe_here (word (codes "dso_local")) >> maybe_here unnamed >> space_here value >> variable_kind

abbrev pub space_part : Part
space_part = record { begins = λ tokens rest. (value : ℕ) × space_here value tokens rest; stops = IsNoSpace }

abbrev pub linkage_part : Part
linkage_part = free (λ tokens rest. (l : Linkage) × linkage_here l tokens rest)

abbrev pub variable_head_part : Part
variable_head_part =
    linkage_part then free (maybe_here (word (codes "dso_local"))) then free (maybe_here unnamed) then space_part then sole variable_kind

-- an alignment, which stands where a comma and `align` begin the tokens
abbrev pub align_here : Option ℕ → Production
align_here None tokens rest = (tokens ≡ rest) × EndsNowhere align_comma tokens
align_here (Some bytes) tokens rest = alignment bytes tokens rest

abbrev pub alignment_part : Part
alignment_part = optional align_comma (mark_part 44 then word_part (codes "align") then number_part)

abbrev pub skipped_part : Part
skipped_part = record { begins = skipped_attachments; stops = SkippedFail }

-- what stands behind a variable's type
abbrev pub behind_variable_type : Option ℕ → Part
behind_variable_type width = value_part width then alignment_part then skipped_part

-- the type of a variable, its value, its alignment and its attachments, of which none is kept
abbrev pub contents : List NameText → Contents → Production
contents names c = ty_here names c.ty >> value names c.init c.ty >> align_here c.align >> skipped_attachments

abbrev pub contents_part : Part
contents_part = type_then behind_variable_type

-- a variable, with all that belongs to it
abbrev pub variable_here : List NameText → Variable → Production
variable_here names v =
    global names v.name >> mark 61 >> variable_head v.linkage v.space >> contents names (record { ty = v.ty; init = v.init; align = v.align })

abbrev pub variable_item : Part
variable_item = global_part then mark_part 61 then variable_head_part then contents_part
