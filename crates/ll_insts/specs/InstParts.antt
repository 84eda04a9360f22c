-- The parts of which the bodies of functions consist: which fronts of tokens are one, whatever values and names they stand for, and
-- where and by which rule tokens are refused that are to begin with one (LLVM 14, Functions; Instruction Reference).
use Rattle.ll_tokens.specs.declared.kinds.TokenKind.TheVariants.{Local as LocalToken}
use Rattle.ll_parser.specs.NameReading.{any_of}
use Rattle.ll_parser.specs.Productions.{mark}
use Rattle.ll_attributes.specs.Attachments.{SkippedFail, skipped_attachments}
use Rattle.ll_operands.specs.Parts.{Part, either, mark_part, ◌then◌}
use Rattle.ll_bodies.specs.BodyJoins.{no_part, until}
use Rattle.ll_bodies.specs.BodyWords.{terminator_word, unnamed_word}
use Rattle.ll_bodies.specs.Labels.{block_label_part}
use Rattle.ll_bodies.specs.Namings.{given_part}
use Rattle.ll_insts.specs.Operations.{operation_part}

-- what an instruction does that is given a name, which some never are
abbrev pub named_operation_part : Part
named_operation_part = either unnamed_word no_part operation_part

abbrev pub attachments_part : Part
attachments_part = record { begins = skipped_attachments; stops = SkippedFail }

abbrev pub named_part : Part
named_part = given_part then named_operation_part then attachments_part

abbrev pub unnamed_part : Part
unnamed_part = operation_part then attachments_part

unfoldable pub inst_part : Part
inst_part = either (any_of LocalToken) named_part unnamed_part

-- instructions up to the one that ends their block
abbrev pub insts_part : Part
insts_part = until terminator_word inst_part inst_part

unfoldable pub block_part : Part
block_part = block_label_part then insts_part

-- blocks up to the `}`, 125, of their function
abbrev pub more_blocks_part : Part
more_blocks_part = until (mark 125) block_part (mark_part 125)

-- one block at least
abbrev pub blocks_part : Part
blocks_part = block_part then more_blocks_part
