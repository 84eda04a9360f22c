-- Definitions of functions up to their `{` (LLVM 14, Functions; Metadata).
use Rattle.std.specs.Prelude.{◌≡◌, ℕ, List, codes, flat_map, Some}
use Rattle.inst_walk.specs.declared.body.Body.{Body}
use Rattle.ll_tree.specs.declared.inst.Inst.{Inst}
use Rattle.ll_tree.specs.declared.module.Function.{Function}
use Rattle.ll_tree.specs.declared.module.NodeRef.{NodeRef}
use Rattle.ll_tree.specs.declared.name.NameText.{NameText}
use Rattle.ll_parser.specs.GrammarAttributes.{attachment, placed_word}
use Rattle.ll_parser.specs.GrammarFunctions.{blocks, next_after}
use Rattle.ll_parser.specs.GrammarItems.{defined_params, first_named, head, number_of}
use Rattle.ll_parser.specs.Productions.{Production, ◌>>◌, each, mark}
use Rattle.ll_attributes.specs.Attachments.{attachments_here}
use Rattle.ll_heads.specs.declared.definitions.DefinitionStart.{DefinitionStart}
use Rattle.ll_heads.specs.Heads.{head_here}

-- what is kept of the attachments: the first of each of the three names
pub record KeepsFirst (names : List NameText) (attachments : List (List ℕ × NodeRef)) (d : DefinitionStart) : Type 0 where
  pub arg_type : d.kernel_arg_type ≡ first_named names (codes "kernel_arg_type") attachments
  pub required : d.reqd_work_group_size ≡ first_named names (codes "reqd_work_group_size") attachments
  pub hint : d.work_group_size_hint ≡ first_named names (codes "work_group_size_hint") attachments

-- the front of the grammar's definition, 123 being `{`, and the next number behind its parameters
abbrev pub definition_start : List NameText → DefinitionStart → Production
definition_start names d tokens rest =
    (attachments : List (List ℕ × NodeRef)) × KeepsFirst names attachments d ×
    (d.next ≡ next_after names (flat_map (number_of names) d.head.params) 0) ×
    (placed_word (codes "define") d.head.byte >> head names (defined_params names) d.head >> each attachment attachments >> mark 123) tokens rest

-- the same as it is read, with all attachments
abbrev pub definition_start_here : List NameText → DefinitionStart → Production
definition_start_here names d tokens rest =
    (attachments : List (List ℕ × NodeRef)) × KeepsFirst names attachments d ×
    (placed_word (codes "define") d.head.byte >> head_here (Some 0) (Some d.next) names d.head >> attachments_here attachments >> mark 123) tokens rest

-- what stands before a function's body, given the next number behind its parameters
abbrev pub start_of : Function → ℕ → DefinitionStart
start_of f next = record {
  head = f.head;
  kernel_arg_type = f.kernel_arg_type;
  reqd_work_group_size = f.reqd_work_group_size;
  work_group_size_hint = f.work_group_size_hint;
  next = next;
}

-- what stands behind that front: the blocks of the body, whose numbers go on behind the parameters, and `}`, 125
abbrev pub body_behind : List NameText → Function → Body Inst ℕ → Production
body_behind names f b = blocks names (next_after names b.params 0) b.blocks f.labels >> mark 125
