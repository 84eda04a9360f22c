-- Instructions, blocks and the heads of functions are refused up to the place alone.
use Rattle.std.proofs.Common.{ℕ, List, codes, refl}
use Rattle.ll_tokens.specs.declared.kinds.TokenKind.TheVariants.{Label, Local as LocalToken}
use Rattle.ll_tree.specs.declared.name.NameText.{NameText}
use Rattle.ll_parser.specs.GrammarItems.{unnamed}
use Rattle.ll_parser.specs.NameReading.{any_of}
use Rattle.ll_parser.specs.Productions.{mark, word}
use Rattle.ll_parser.specs.Reading.{DerivesNone}
use Rattle.ll_attributes.specs.Attachments.{attachments_here}
use Rattle.ll_attributes.specs.Heads.{convention_here, linkage_here}
use Rattle.ll_attributes.specs.Lists.{maybe_here}
use Rattle.ll_operands.specs.Parts.{global_part, local_part, mark_part, repeated, ◌then◌, type_part, word_part}
use Rattle.ll_heads.specs.HeadParts.{attachments_part, attributes_part, back_part, convention_part, declaration_part, definition_part, front_part, head_part, linkage_part, name_part, never_refused, next_part, param_part, params_part, some_part}
use Rattle.ll_bodies.specs.BodyJoins.{no_part}
use Rattle.ll_bodies.specs.BodyWords.{terminator_word, unnamed_word}
use Rattle.ll_bodies.specs.Labels.{block_label_part, written_label, written_label_part}
use Rattle.ll_bodies.specs.Namings.{given_part}
use Rattle.ll_insts.specs.InstParts as inst_parts
use Rattle.ll_insts.specs.InstParts.{block_part, blocks_part, inst_part, insts_part, more_blocks_part, named_operation_part, named_part, unnamed_part}
use Rattle.ll_insts.specs.Operations.{operation_part}
use Rattle.ll_modules.specs.Definitions.{whole_definition_part}
use Rattle.ll_fronts.proofs.Attributes.{attachments_settle, function_attributes_settle, keeps_attachments, keeps_convention, keeps_function_attributes, keeps_linkage, keeps_maybe, local_skipped, skipped_ends, skipped_passes}
use Rattle.ll_front_parts.proofs.Fronts.{IsLocal, Keeps, keeps_token, one, sees_none, sees_token, settled_first, two}
use Rattle.ll_front_parts.proofs.Joins.{keeps_any, keeps_named, keeps_or, local_comma_then, local_either, local_mark, local_optional, local_repeated, local_then, local_word, sees_or}
use Rattle.ll_fronts.proofs.Joins.{local_free, local_none, local_until}
use Rattle.ll_fronts.proofs.Operations.{local_attributes, local_operation}
use Rattle.ll_front_parts.proofs.Types.{local_global, local_local, local_type}

-- instructions
local_named_operation : IsLocal two named_operation_part
local_named_operation = local_either two unnamed_word no_part operation_part (sees_token _ _) (local_none two) local_operation

local_inst : IsLocal one inst_part
unfolding inst_part
local_inst =
    local_either one (any_of LocalToken) named_part unnamed_part (sees_token _ _)
    (local_then one given_part (named_operation_part then inst_parts.attachments_part) (local_then one local_part (mark_part 61) local_local (local_mark 61))
    (local_comma_then named_operation_part inst_parts.attachments_part skipped_passes skipped_ends local_named_operation local_skipped))
    (local_comma_then operation_part inst_parts.attachments_part skipped_passes skipped_ends local_operation local_skipped)

-- blocks
local_written : IsLocal one written_label_part
local_written = record {
  keeps = keeps_named written_label (λ names number. keeps_token _ _);
  settles = settled_first (λ tokens. (names : List NameText) → DerivesNone (written_label names) tokens) (λ tokens. 4)
      (λ a b same none names. sees_none (written_label names) (λ number. sees_token _ _) a b same (none names)) (λ l a b. refl);
}

local_block : IsLocal one block_part
unfolding block_part
local_block =
    local_then one block_label_part insts_part (local_optional one (any_of Label) written_label_part (sees_token _ _) local_written)
    (local_until terminator_word inst_part inst_part (sees_token _ _) local_inst local_inst)

local_blocks : IsLocal one blocks_part
local_blocks =
    local_then one block_part more_blocks_part local_block (local_until (mark 125) block_part (mark_part 125) (sees_token _ _) local_block (local_mark 125))

-- heads
local_param : IsLocal one param_part
local_param =
    local_then one type_part (attributes_part then name_part) local_type
    (local_then one attributes_part name_part local_attributes (local_optional one (any_of LocalToken) local_part (sees_token _ _) local_local))

local_params : IsLocal one params_part
local_params =
    local_either one (mark 41) (mark_part 41) (some_part then mark_part 41) (sees_token _ _) (local_mark 41)
    (local_then one some_part (mark_part 41)
    (local_then one param_part (repeated (mark 44) next_part) local_param
    (local_repeated (mark 44) next_part (sees_token _ _) (local_then one (mark_part 44) param_part (local_mark 44) local_param)))
    (local_mark 41))

pub keeps_linkages : Keeps one linkage_part.begins
keeps_linkages = keeps_any one linkage_here keeps_linkage

pub keeps_word_here : (text : List ℕ) → Keeps one (maybe_here (word text))
keeps_word_here text = keeps_maybe (word text) (sees_token _ _) (keeps_token _ _)

pub keeps_unnamed : Keeps one (maybe_here unnamed)
keeps_unnamed =
    keeps_maybe unnamed (sees_or one (word (codes "unnamed_addr")) (word (codes "local_unnamed_addr")) (sees_token _ _) (sees_token _ _))
    (keeps_or one (word (codes "unnamed_addr")) (word (codes "local_unnamed_addr")) (keeps_token _ _) (keeps_token _ _))

local_front : IsLocal one front_part
local_front =
    local_then one linkage_part _ (local_free linkage_part.begins keeps_linkages)
    (local_then one (never_refused (maybe_here (word (codes "dso_local")))) _
    (local_free (maybe_here (word (codes "dso_local"))) (keeps_word_here (codes "dso_local")))
    (local_then one convention_part _ (local_free convention_part.begins (keeps_any one convention_here keeps_convention))
    (local_then one attributes_part (type_part then global_part) local_attributes (local_then one type_part global_part local_type local_global))))

local_head : IsLocal one head_part
local_head =
    local_then one front_part (mark_part 40 then params_part then back_part) local_front
    (local_then one (mark_part 40) (params_part then back_part) (local_mark 40) (local_then one params_part back_part local_params
    (local_then one (never_refused (maybe_here unnamed)) _ (local_free (maybe_here unnamed) keeps_unnamed)
    (record { keeps = keeps_function_attributes; settles = function_attributes_settle }))))

pub local_declaration : IsLocal one declaration_part
local_declaration = local_then one (word_part (codes "declare")) head_part (local_word (codes "declare")) local_head

local_attachments : IsLocal one attachments_part
local_attachments = record { keeps = keeps_any one attachments_here keeps_attachments; settles = attachments_settle }

pub local_whole_definition : IsLocal one whole_definition_part
local_whole_definition =
    local_then one definition_part blocks_part
    (local_then one (word_part (codes "define")) (head_part then attachments_part then mark_part 123) (local_word (codes "define"))
    (local_then one head_part (attachments_part then mark_part 123) local_head (local_then one attachments_part (mark_part 123) local_attachments (local_mark 123))))
    local_blocks
