-- Instructions, blocks and the heads of functions are refused at one place, by one rule.
use Rattle.std.proofs.Common.{codes, sym, ◌∙◌}
use Rattle.ll_tokens.specs.declared.kinds.TokenKind.TheVariants.{Label, Local as LocalToken}
use Rattle.ll_parser.specs.GrammarItems.{unnamed}
use Rattle.ll_parser.specs.NameReading.{any_of}
use Rattle.ll_parser.specs.Productions.{mark, word}
use Rattle.ll_parser.proofs.SpaceFacts.{word_leaves_one}
use Rattle.ll_attributes.specs.Lists.{maybe_here}
use Rattle.ll_attributes.proofs.AttachmentFacts.{attachments_end, attachments_none, attachments_one}
use Rattle.ll_attributes.proofs.HeadFacts.{convention_same, linkage_same}
use Rattle.ll_attributes.proofs.ListFacts.{maybe_one}
use Rattle.ll_attributes.proofs.OneRefusal.{attachments_once, function_attributes_once, skipped_once}
use Rattle.ll_operands.specs.Parts.{local_part, mark_part, repeated, ◌then◌}
use Rattle.ll_operands.proofs.PartFacts.{IsExact, exact_either, exact_local, exact_mark, exact_then, exact_type, exact_word}
use Rattle.ll_heads.specs.HeadParts.{attachments_part, attributes_part, back_part, declaration_part, definition_part, front_part, head_part, name_part, next_part, param_part, params_part, some_part}
use Rattle.ll_heads.proofs.HeadExact.{exact_attributes, exact_front, exact_head, exact_next, exact_param, exact_params, exact_some, unnamed_one}
use Rattle.ll_bodies.specs.BodyJoins.{no_part}
use Rattle.ll_bodies.specs.BodyWords.{terminator_word, unnamed_word}
use Rattle.ll_bodies.specs.Labels.{block_label_part, written_label_part}
use Rattle.ll_bodies.specs.Namings.{given_part}
use Rattle.ll_bodies.proofs.ExactJoins.{exact_none}
use Rattle.ll_bodies.proofs.LabelsRead.{exact_label}
use Rattle.ll_insts.specs.InstParts as inst_parts
use Rattle.ll_insts.specs.InstParts.{block_part, blocks_part, inst_part, insts_part, more_blocks_part, named_operation_part, named_part, unnamed_part}
use Rattle.ll_insts.specs.Operations.{operation_part}
use Rattle.ll_insts.proofs.ExactInsts.{exact_block, exact_inst}
use Rattle.ll_insts.proofs.OperationFacts.{exact_operation}
use Rattle.ll_modules.specs.Definitions.{whole_definition_part}
use Rattle.ll_places.proofs.Attributes.{attributes_once}
use Rattle.ll_places.proofs.Joins.{Once, once_either, once_none, once_optional, once_repeated, once_then, once_until}
use Rattle.ll_places.proofs.Leaves.{once_behind, once_global, once_local, once_mark, once_word}
use Rattle.ll_places.proofs.Operations.{once_operation}
use Rattle.ll_places.proofs.Types.{once_type}
use Rattle.ll_heads.proofs.HeadExact.{exact_definition}

-- instructions
exact_named_operation : IsExact named_operation_part
exact_named_operation = exact_either unnamed_word no_part operation_part exact_none exact_operation (λ tokens rest d. absurd d)

once_named : Once named_part
once_named =
    once_then given_part (named_operation_part then inst_parts.attachments_part) (exact_then _ _ exact_local (exact_mark 61)) (once_then _ _ exact_local once_local (once_mark 61))
    (once_then named_operation_part inst_parts.attachments_part exact_named_operation (once_either unnamed_word no_part operation_part once_none once_operation) (record { refuses = skipped_once }))

once_unnamed : Once unnamed_part
once_unnamed = once_then operation_part inst_parts.attachments_part exact_operation once_operation (record { refuses = skipped_once })

once_inst : Once inst_part
unfolding inst_part
once_inst = once_either (any_of LocalToken) named_part unnamed_part once_named once_unnamed

-- blocks
once_insts : Once insts_part
once_insts = once_until terminator_word inst_part inst_part exact_inst once_inst once_inst

once_written : Once written_label_part
once_written = record { refuses = λ tokens r s d e. d.1 ∙ sym e.1 }

once_block : Once block_part
unfolding block_part
once_block = once_then block_label_part insts_part exact_label (once_optional (any_of Label) written_label_part once_written) once_insts

once_blocks : Once blocks_part
once_blocks = once_then block_part more_blocks_part exact_block once_block (once_until (mark 125) block_part (mark_part 125) exact_block once_block (once_mark 125))

-- heads
once_param : Once param_part
once_param =
    once_then _ _ exact_type once_type (once_then attributes_part name_part exact_attributes (record { refuses = attributes_once }) (once_optional (any_of LocalToken) local_part once_local))

once_some : Once some_part
once_some =
    once_then param_part (repeated (mark 44) next_part) exact_param once_param
    (once_repeated (mark 44) next_part exact_next (once_then _ _ (exact_mark 44) (once_mark 44) once_param))

once_params : Once params_part
once_params = once_either (mark 41) (mark_part 41) (some_part then mark_part 41) (once_mark 41) (once_then _ _ exact_some once_some (once_mark 41))

once_front : Once front_part
once_front =
    once_behind _ _ (λ tokens a b d e. (linkage_same d.0 e.0 tokens a b d.1 e.1).1)
    (once_behind (maybe_here (word (codes "dso_local"))) _ (maybe_one (word (codes "dso_local")) (word_leaves_one (codes "dso_local")))
    (once_behind _ _ (λ tokens a b d e. (convention_same d.0 e.0 tokens a b d.1 e.1).1)
    (once_then attributes_part _ exact_attributes (record { refuses = attributes_once }) (once_then _ _ exact_type once_type once_global))))

once_back : Once back_part
once_back = once_behind (maybe_here unnamed) _ (maybe_one unnamed unnamed_one) (record { refuses = function_attributes_once })

once_head : Once head_part
once_head = once_then _ _ exact_front once_front (once_then _ _ (exact_mark 40) (once_mark 40) (once_then _ _ exact_params once_params once_back))

pub once_declaration : Once declaration_part
once_declaration = once_then _ _ (exact_word (codes "declare")) (once_word (codes "declare")) once_head

exact_attachments : IsExact attachments_part
exact_attachments = record {
  one = λ tokens a b d e. attachments_one d.0 e.0 tokens a b d.1 e.1;
  none = λ tokens rest refusal s d. attachments_none tokens refusal s d.0 rest d.1;
  ends = λ tokens rest d. attachments_end d.0 tokens rest d.1;
}

once_definition : Once definition_part
once_definition =
    once_then _ _ (exact_word (codes "define")) (once_word (codes "define"))
    (once_then _ _ exact_head once_head (once_then _ _ exact_attachments (record { refuses = attachments_once }) (once_mark 123)))

pub once_whole_definition : Once whole_definition_part
once_whole_definition = once_then definition_part blocks_part exact_definition once_definition once_blocks
