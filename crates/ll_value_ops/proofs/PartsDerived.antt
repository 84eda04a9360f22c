-- What the grammar derives of instructions on values is of the part.
use Rattle.std.proofs.Common.{List}
use Rattle.ll_tokens.specs.Tokens.{Lexeme}
use Rattle.ll_tree.specs.declared.name.NameText.{NameText}
use Rattle.ll_tree.specs.declared.op.Flag.{Flag}
use Rattle.ll_tree.specs.declared.op.Op.{Op}
use Rattle.ll_tree.specs.declared.op.Op.TheVariants as op
use Rattle.ll_tree.specs.declared.ty.LlType.{LlType}
use Rattle.ll_tree.specs.declared.value.TypedValue.{TypedValue}
use Rattle.ll_tree.specs.declared.value.Value.{Value}
use Rattle.ll_parser.specs.GrammarInsts.{flag}
use Rattle.ll_parser.specs.GrammarTypes.{ty}
use Rattle.ll_parser.specs.GrammarValues.{typed, value}
use Rattle.ll_parser.specs.Productions.{Production, ◌>>◌, each, mark, word}
use Rattle.ll_types.proofs.Tokens.{Shortens, seq_shortens, token_shortens}
use Rattle.ll_types.proofs.ValueForms.{value_no_pointer}
use Rattle.ll_operands.specs.Operands.{one_type_part, three_part, two_part}
use Rattle.ll_operands.proofs.OperandFacts.{one_type_is_part, three_is_part, two_is_part}
use Rattle.ll_value_ops.specs.declared.opcodes.ValueOpcode.TheVariants as opcode
use Rattle.ll_value_ops.specs.ValueOpcodes.{flags_part, opcode_word}
use Rattle.ll_value_ops.specs.ValueOperations.{behind_opcode, value_operation, value_operation_part}
use Rattle.ll_value_ops.proofs.ExactOperations.{exact_behind}
use Rattle.ll_value_ops.proofs.FlagsRead.{flags_begin}
use Rattle.ll_value_ops.proofs.OpcodesApart.{type_no_flag}

module _ (names : List NameText) where
  -- operands as the grammar has them
  abbrev one_type : LlType → Value → Value → Production
  one_type t left right = ty names t >> value names left t >> mark 44 >> value names right t

  abbrev three_of : TypedValue → TypedValue → TypedValue → Production
  three_of a b c = (typed names a >> mark 44 >> typed names b) >> mark 44 >> typed names c

  one_type_begins : (t : LlType) (left right : Value) (tokens rest : List Lexeme) → one_type t left right tokens rest → one_type_part.begins tokens rest
  unfolding ◌>>◌
  one_type_begins t left right tokens rest (a, d, (b, l, more)) =
      one_type_is_part names (record { ty = t; left = left; right = right }) tokens rest (a, (d, value_no_pointer t names left a b l), (b, l, more))

  flags_before_type : (flags : List Flag) (t : LlType) (left right : Value) (tokens middle rest : List Lexeme) → each flag flags tokens middle → one_type t left right middle rest → flags_part.begins tokens middle
  unfolding ◌>>◌
  flags_before_type flags t left right tokens middle rest fs (a, d, more) = flags_begin flags tokens middle (fs, type_no_flag names t middle a d)

  two_begins : (a b : TypedValue) (tokens rest : List Lexeme) → (typed names a >> mark 44 >> typed names b) tokens rest → two_part.begins tokens rest
  two_begins a b tokens rest d = two_is_part names (record { first = a; second = b }) tokens rest d

  three_begins : (a b c : TypedValue) (tokens rest : List Lexeme) → three_of a b c tokens rest → three_part.begins tokens rest
  unfolding ◌>>◌
  three_begins a b c tokens rest (o, (m, d, (n, comma, e)), (p, comma', f)) =
      three_is_part names (record { first = a; second = b; third = c }) tokens rest (m, d, (n, comma, (o, e, (p, comma', f))))

  -- what the grammar derives is of the part
  pub of_part : (o : Op) (tokens rest : List Lexeme) → value_operation names o tokens rest → value_operation_part.begins tokens rest
  unfolding ◌>>◌
  of_part (op.Binary kind flags t left right) tokens rest (_, ((m, w, (n, fs, d)), _)) =
      (opcode.Binary kind, m, w, (n, flags_before_type flags t left right m n rest fs d, one_type_begins t left right n rest d))
  of_part (op.Compare p t left right) tokens rest (_, ((m, w, (n, v, d)), _)) =
      (opcode.Compare, m, w, (n, (p, v), one_type_begins t left right n rest d))
  of_part (op.Select a b c) tokens rest (_, ((m, w, d), _)) = (opcode.Select, m, w, three_begins a b c m rest d)
  of_part (op.Cast kind operand to) tokens rest (_, ((m, w, (n, d, (k, v, t))), whole)) =
      (opcode.Cast kind, m, w, (n, (names, operand, d), (k, v, (names, to, (t, whole)))))
  of_part (op.ExtractElement a b) tokens rest (_, ((m, w, d), _)) = (opcode.ExtractElement, m, w, two_begins a b m rest d)
  of_part (op.InsertElement a b c) tokens rest (_, ((m, w, d), _)) = (opcode.InsertElement, m, w, three_begins a b c m rest d)
  of_part (op.ShuffleVector a b c) tokens rest (_, ((m, w, d), _)) = (opcode.ShuffleVector, m, w, three_begins a b c m rest d)
  of_part (op.ExtractValue aggregate index) tokens rest (_, ((m, w, (n, d, (k, comma, i))), _)) =
      (opcode.ExtractValue, m, w, (n, (names, aggregate, d), (k, comma, (index, i))))
  of_part other tokens rest (is, _) = absurd is

-- an instruction is shorter than its word and what stands behind it
joined : (p q : Production) (tokens middle rest : List Lexeme) → p tokens middle → q middle rest → (p >> q) tokens rest
unfolding ◌>>◌
joined p q tokens middle rest d e = (middle, d, e)

pub part_shortens : Shortens value_operation_part.begins
part_shortens tokens rest (key, m, w, d) =
    seq_shortens (word (opcode_word key)) (behind_opcode key).begins (token_shortens _ _) (exact_behind key).ends tokens rest (joined _ _ tokens m rest w d)

pub operation_shortens : (names : List NameText) (o : Op) → Shortens (value_operation names o)
operation_shortens names o tokens rest d = part_shortens tokens rest (of_part names o tokens rest d)
