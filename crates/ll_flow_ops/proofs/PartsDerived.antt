-- What the grammar derives of instructions of control flow is of the part.
use Rattle.std.proofs.Common.{List, [], ◌∷◌, length, codes, refl, inl, inr, arith}
use Rattle.ll_tokens.specs.Tokens.{Lexeme}
use Rattle.ll_tree.specs.declared.name.Name.{Name}
use Rattle.ll_tree.specs.declared.name.NameText.{NameText}
use Rattle.ll_tree.specs.declared.op.Op.{Op}
use Rattle.ll_tree.specs.declared.op.Op.TheVariants as op
use Rattle.ll_tree.specs.declared.op.PhiEntry.{PhiEntry}
use Rattle.ll_tree.specs.declared.op.SwitchCase.{SwitchCase}
use Rattle.ll_tree.specs.declared.ty.LlType.{LlType}
use Rattle.ll_tree.specs.declared.value.TypedValue.{TypedValue}
use Rattle.ll_tree.specs.Types.{int_width}
use Rattle.ll_parser.specs.GrammarInsts.{entries, entry, switch_case}
use Rattle.ll_parser.specs.GrammarValues.{typed}
use Rattle.ll_parser.specs.Productions.{Production, ◌>>◌, each, each_behind_comma, mark, word}
use Rattle.ll_parser.specs.Reading.{EndsNowhere}
use Rattle.ll_types.proofs.Tokens.{Shortens, mark_no_pointer, seq_shortens, token_shortens}
use Rattle.ll_operands.specs.Operands.{label}
use Rattle.ll_operands.specs.Parts.{times}
use Rattle.ll_operands.specs.Whole.{entry_comma}
use Rattle.ll_operands.proofs.OperandFacts.{label_is_part}
use Rattle.ll_operands.proofs.TypeBegins.{begins_no_type, typed_no_word}
use Rattle.ll_flow_ops.specs.declared.opcodes.FlowOpcode.TheVariants as opcode
use Rattle.ll_flow_ops.specs.FlowOpcodes.{opcode_word}
use Rattle.ll_flow_ops.specs.FlowOperations.{behind_opcode, flow_operation, flow_operation_part}
use Rattle.ll_flow_ops.specs.FlowParts.{cases_part, entries_part, next_entry_part, target_part}
use Rattle.ll_flow_ops.proofs.ExactOperations.{exact_behind}
use Rattle.ll_flow_ops.proofs.PhisRead.{entry_is_part}
use Rattle.ll_flow_ops.proofs.ReturnTypes.{typed_no_void}
use Rattle.ll_flow_ops.proofs.SwitchesRead.{case_is_part, no_case, target_is_part}

module _ (names : List NameText) where
  -- entries behind commas, and all entries
  next_times : (t : LlType) (es : List PhiEntry) (tokens rest : List Lexeme) → each_behind_comma (entry names t) es tokens rest → times (length es) (next_entry_part (int_width t)).begins tokens rest
  unfolding ◌>>◌
  next_times t [] tokens rest same = same
  next_times t (e ∷ es) tokens rest (a, comma, (b, d, more)) = (b, (a, comma, entry_is_part t names e a b d), next_times t es b rest more)

  entries_begin : (t : LlType) (es : List PhiEntry) (tokens rest : List Lexeme) → entries names t es tokens rest → EndsNowhere entry_comma rest → (entries_part (int_width t)).begins tokens rest
  unfolding ◌>>◌
  entries_begin t [] tokens rest d end = absurd d
  entries_begin t (e ∷ es) tokens rest (m, d, more) end = (m, entry_is_part t names e tokens m d, (length es, next_times t es m rest more, end))

  -- a type before entries has all its pointers
  phi_begins : (t : LlType) (es : List PhiEntry) (tokens middle rest : List Lexeme) → entries names t es middle rest → EndsNowhere entry_comma rest → (n : List Lexeme) × mark 91 middle n
  unfolding ◌>>◌
  phi_begins t [] tokens middle rest d end = absurd d
  phi_begins t (e ∷ es) tokens middle rest (m, (n, bracket, _), more) end = (n, bracket)

  case_times : (cs : List SwitchCase) (tokens rest : List Lexeme) → each (switch_case names) cs tokens rest → times (length cs) target_part.begins tokens rest
  unfolding ◌>>◌
  case_times [] tokens rest same = same
  case_times (c ∷ cs) tokens rest (a, d, more) = (a, case_is_part names c tokens a d, case_times cs a rest more)

  cases_begin : (cs : List SwitchCase) (tokens middle rest : List Lexeme) → each (switch_case names) cs tokens middle → mark 93 middle rest → cases_part.begins tokens rest
  unfolding ◌>>◌
  cases_begin cs tokens middle rest d close = (middle, (length cs, case_times cs tokens middle d, no_case middle rest close), close)

  target_begins : (v : TypedValue) (name : Name) (tokens a b rest : List Lexeme) → typed names v tokens a → mark 44 a b → label names name b rest → target_part.begins tokens rest
  unfolding ◌>>◌
  target_begins v name tokens a b rest d comma l = target_is_part names (record { value = v; block = name }) tokens rest (a, d, (b, comma, l))

  no_label : (v : TypedValue) (tokens rest : List Lexeme) → typed names v tokens rest → EndsNowhere (word (codes "label")) tokens
  no_label v tokens rest d =
      typed_no_word (codes "label") (begins_no_type (codes "label") (λ e. omega arith) (λ e. omega arith) (λ e. omega arith) (λ e. omega arith) (λ e. omega arith)) names v tokens rest d

  -- what the grammar derives is of the part
  pub of_part : (o : Op) (tokens rest : List Lexeme) → flow_operation names o tokens rest → flow_operation_part.begins tokens rest
  unfolding ◌>>◌
  of_part (op.Phi t es) tokens rest (_, ((m, w, (n, d, e)), end)) =
      let bracket : (k : List Lexeme) × mark 91 n k = phi_begins t es m n rest e end in
      (opcode.Phi, m, w, (names, t, n, (d, mark_no_pointer 91 n bracket.0 (λ q. omega arith) bracket.1), entries_begin t es n rest e end))
  of_part op.ReturnVoid tokens rest (_, ((m, w, v), _)) = (opcode.Return, m, w, inl v)
  of_part (op.Return given) tokens rest (_, ((m, w, (is, d)), _)) = (opcode.Return, m, w, inr (typed_no_void names given m rest is d, (names, given, d)))
  of_part (op.Jump name) tokens rest (_, ((m, w, l), _)) = (opcode.Branch, m, w, inl (label_is_part names name m rest l))
  of_part (op.Branch condition accepted rejected) tokens rest (_, ((m, w, (a, d, (b, comma, (c, l, (e, comma', l'))))), _)) =
      (opcode.Branch, m, w, inr (no_label condition m a d, (c, target_begins condition accepted m a b c d comma l, (e, comma', label_is_part names rejected e rest l'))))
  of_part (op.Switch selector default cs) tokens rest (_, ((m, w, (a, d, (b, comma, (c, l, (e, bracket, (f, all, close)))))), _)) =
      (opcode.Switch, m, w, (c, target_begins selector default m a b c d comma l, (e, bracket, cases_begin cs e f rest all close)))
  of_part op.Unreachable tokens rest (_, (w, _)) = (opcode.Unreachable, rest, w, refl)
  of_part other tokens rest (is, _) = absurd is

joined : (p q : Production) (tokens middle rest : List Lexeme) → p tokens middle → q middle rest → (p >> q) tokens rest
unfolding ◌>>◌
joined p q tokens middle rest d e = (middle, d, e)

-- an instruction is shorter than its word and what stands behind it
pub part_shortens : Shortens flow_operation_part.begins
part_shortens tokens rest (key, m, w, d) =
    seq_shortens (word (opcode_word key)) (behind_opcode key).begins (token_shortens _ _) (exact_behind key).ends tokens rest (joined _ _ tokens m rest w d)

pub operation_shortens : (names : List NameText) (o : Op) → Shortens (flow_operation names o)
operation_shortens names o tokens rest d = part_shortens tokens rest (of_part names o tokens rest d)
