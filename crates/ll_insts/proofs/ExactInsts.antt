-- The parts of the bodies of functions are exact.
use Rattle.std.proofs.Common.{List, inl, inr}
use Rattle.ll_tokens.specs.declared.kinds.TokenKind.TheVariants.{Local as LocalToken}
use Rattle.ll_tokens.specs.Tokens.{Lexeme}
use Rattle.ll_parser.specs.NameReading.{any_of}
use Rattle.ll_parser.specs.Productions.{◌>>◌, mark}
use Rattle.ll_types.proofs.Tokens.{Shortens, seq_shortens, token_end, token_shortens}
use Rattle.ll_attributes.proofs.AttachmentFacts.{skipped_end, skipped_none, skipped_one}
use Rattle.ll_operands.specs.Parts.{Begins, local_part, mark_part, ◌then◌}
use Rattle.ll_operands.proofs.PartFacts.{IsExact, exact_either, exact_local, exact_mark, exact_then}
use Rattle.ll_bodies.specs.BodyJoins.{no_part}
use Rattle.ll_bodies.specs.BodyWords.{terminator_word, unnamed_word}
use Rattle.ll_bodies.specs.Labels.{block_label_part}
use Rattle.ll_bodies.specs.Namings.{given_part}
use Rattle.ll_bodies.proofs.ExactJoins.{exact_none, exact_until}
use Rattle.ll_bodies.proofs.LabelsRead.{exact_label}
use Rattle.ll_insts.specs.InstParts.{attachments_part, block_part, blocks_part, inst_part, insts_part, more_blocks_part, named_operation_part, named_part, unnamed_part}
use Rattle.ll_insts.specs.Operations.{operation_part}
use Rattle.ll_insts.proofs.OperationFacts.{exact_operation, part_shortens}

exact_attachments : IsExact attachments_part
exact_attachments = record { one = skipped_one; none = λ tokens rest refusal s d. skipped_none tokens refusal s rest d; ends = skipped_end }

exact_given : IsExact given_part
exact_given = exact_then local_part (mark_part 61) exact_local (exact_mark 61)

exact_named_operation : IsExact named_operation_part
exact_named_operation = exact_either unnamed_word no_part operation_part exact_none exact_operation (λ tokens rest d. absurd d)

exact_named : IsExact named_part
exact_named = exact_then given_part (named_operation_part then attachments_part) exact_given (exact_then named_operation_part attachments_part exact_named_operation exact_attachments)

exact_unnamed : IsExact unnamed_part
exact_unnamed = exact_then operation_part attachments_part exact_operation exact_attachments

named_opens : (tokens rest : List Lexeme) → named_part.begins tokens rest → Begins (any_of LocalToken) tokens
unfolding ◌>>◌
named_opens tokens rest (m, (n, (names, name, (l, is, kind, _)), _), _) = (n, (l, is, kind, tt))

pub exact_inst : IsExact inst_part
unfolding inst_part
exact_inst = exact_either (any_of LocalToken) named_part unnamed_part exact_named exact_unnamed named_opens

named_shortens : Shortens named_part.begins
named_shortens = seq_shortens _ _ (seq_shortens _ _ (λ tokens rest d. token_shortens _ _ tokens rest d.2) (token_end _ _)) (exact_then named_operation_part attachments_part exact_named_operation exact_attachments).ends

unnamed_shortens : Shortens unnamed_part.begins
unnamed_shortens = seq_shortens _ _ part_shortens exact_attachments.ends

pub inst_part_shortens : Shortens inst_part.begins
unfolding inst_part
inst_part_shortens tokens rest (inl d) = named_shortens tokens rest d
inst_part_shortens tokens rest (inr (_, d)) = unnamed_shortens tokens rest d

pub exact_insts : IsExact insts_part
exact_insts = exact_until terminator_word inst_part inst_part exact_inst exact_inst

pub exact_block : IsExact block_part
unfolding block_part
exact_block = exact_then block_label_part insts_part exact_label exact_insts

pub exact_more_blocks : IsExact more_blocks_part
exact_more_blocks = exact_until (mark 125) block_part (mark_part 125) exact_block (exact_mark 125)

pub exact_blocks : IsExact blocks_part
exact_blocks = exact_then block_part more_blocks_part exact_block exact_more_blocks
