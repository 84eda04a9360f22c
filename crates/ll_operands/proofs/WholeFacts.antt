-- An instruction behind which no instruction goes on is whole.
use Rattle.std.proofs.Common.{List, None, Some}
use Rattle.ll_tokens.specs.declared.kinds.TokenKind.TheVariants.{MdName, Punct, Word}
use Rattle.ll_tokens.specs.Tokens.{Lexeme}
use Rattle.ll_tree.specs.declared.op.Op.{Op}
use Rattle.ll_tree.specs.declared.op.Op.TheVariants as op
use Rattle.ll_parser.specs.Productions.{◌>>◌}
use Rattle.ll_parser.specs.Reading.{EndsNowhere}
use Rattle.ll_types.proofs.Tokens.{kinds_apart}
use Rattle.ll_operands.specs.Parts.{operand_comma}
use Rattle.ll_operands.specs.Whole.{EndsOperation, IsWhole, align_comma, entry_comma}

no_align_comma : (rest : List Lexeme) → EndsNowhere operand_comma rest → EndsNowhere align_comma rest
unfolding ◌>>◌
no_align_comma rest nowhere end (m, comma, w) = nowhere m (comma, λ b x. kinds_apart Word MdName _ _ m end b (λ e. cc) w x)

no_entry_comma : (rest : List Lexeme) → EndsNowhere operand_comma rest → EndsNowhere entry_comma rest
unfolding ◌>>◌
no_entry_comma rest nowhere end (m, comma, bracket) = nowhere m (comma, λ b x. kinds_apart Punct MdName _ _ m end b (λ e. cc) bracket x)

pub whole_at_end : (o : Op) (rest : List Lexeme) → EndsOperation rest → IsWhole o rest
whole_at_end (op.Cast kind operand to) rest ends = ends.no_pointer
whole_at_end (op.Phi t entries) rest ends = no_entry_comma rest ends.no_operand
whole_at_end (op.Alloca t None None) rest ends = (ends.no_pointer, ends.no_operand)
whole_at_end (op.Alloca t None (Some bytes)) rest ends = λ e. no_align_comma rest ends.no_operand
whole_at_end (op.Alloca t (Some count) None) rest ends = λ e. no_align_comma rest ends.no_operand
whole_at_end (op.Alloca t (Some count) (Some bytes)) rest ends = λ e. no_align_comma rest ends.no_operand
whole_at_end (op.Load volatile t pointer bytes) rest ends = λ e. no_align_comma rest ends.no_operand
whole_at_end (op.Store volatile stored pointer bytes) rest ends = λ e. no_align_comma rest ends.no_operand
whole_at_end (op.CompareExchange pointer comparator new scope equal unequal bytes) rest ends = λ e. no_align_comma rest ends.no_operand
whole_at_end (op.AtomicRmw kind pointer operand scope order bytes) rest ends = λ e. no_align_comma rest ends.no_operand
whole_at_end (op.GetElementPtr inbounds t pointer indexes) rest ends = ends.no_operand
whole_at_end (op.Call t callee arguments) rest ends = ends.no_attribute
whole_at_end other rest ends = tt
