-- Operations are refused at one place, by one rule.
use Rattle.std.proofs.Common.{ℕ, List, codes, sym, ◌∙◌, Option, refl, inl, inr, arith}
use Rattle.ll_tokens.specs.Tokens.{Lexeme}
use Rattle.ll_parser.specs.GrammarInsts.{flag_word, order_word, predicate_word, rmw_word}
use Rattle.ll_parser.specs.GrammarItems.{any_text}
use Rattle.ll_parser.specs.Productions.{◌>>◌, mark, word}
use Rattle.ll_parser.proofs.TokenFacts.{token_leaves_one}
use Rattle.ll_types.proofs.OneValue.{typed_no_mark}
use Rattle.ll_types.proofs.Tokens.{EndsBy, token_end}
use Rattle.ll_attributes.specs.Heads.{call_convention}
use Rattle.ll_attributes.specs.Lists.{maybe_here}
use Rattle.ll_attributes.proofs.OneRefusal.{function_attributes_once}
use Rattle.ll_operands.specs.Operands.{label_part, one_type_part, three_part, two_part}
use Rattle.ll_operands.specs.Parts.{Begins, global_part, mark_part, number_part, one_word, operand_comma, repeated, ◌then◌, type_part, typed_part, value_part, word_part}
use Rattle.ll_operands.specs.Whole.{align_comma, entry_comma}
use Rattle.ll_operands.proofs.OperandFacts.{exact_three, exact_two}
use Rattle.ll_operands.proofs.PartFacts.{IsExact, exact_either, exact_global, exact_local, exact_mark, exact_one_word, exact_optional, exact_repeated, exact_then, exact_type, exact_type_then, exact_typed, exact_value, exact_word}
use Rattle.ll_heads.proofs.HeadExact.{exact_attributes}
use Rattle.ll_items.proofs.ItemFacts.{exact_maybe}
use Rattle.ll_items.proofs.VariableFacts.{words_one}
use Rattle.ll_value_ops.specs.declared.opcodes.ValueOpcode.{ValueOpcode}
use Rattle.ll_value_ops.specs.declared.opcodes.ValueOpcode.TheVariants as value_opcode
use Rattle.ll_value_ops.specs.ValueOpcodes as value_codes
use Rattle.ll_value_ops.specs.ValueOperations as value_behind
use Rattle.ll_value_ops.proofs.OpcodesApart as value_apart
use Rattle.ll_flow_ops.specs.declared.opcodes.FlowOpcode.{FlowOpcode}
use Rattle.ll_flow_ops.specs.declared.opcodes.FlowOpcode.TheVariants as flow_opcode
use Rattle.ll_flow_ops.specs.FlowOpcodes as flow_codes
use Rattle.ll_flow_ops.specs.FlowOperations as flow_behind
use Rattle.ll_flow_ops.specs.FlowParts.{branch_part, cases_part, entries_part, entry_part, next_entry_part, no_close, phi_part, return_part, switch_part, target_part}
use Rattle.ll_flow_ops.proofs.OpcodesApart as flow_apart
use Rattle.ll_memory_ops.specs.declared.opcodes.MemoryOpcode.{MemoryOpcode}
use Rattle.ll_memory_ops.specs.declared.opcodes.MemoryOpcode.TheVariants as memory_opcode
use Rattle.ll_memory_ops.specs.AccessParts.{align_part, alignment_part, atomic_load_part, atomic_store_part, if_word_part, load_part, plain_load_part, plain_store_part, pointee_part, store_part}
use Rattle.ll_memory_ops.specs.AddressParts.{address_part, index_part, indexes_part}
use Rattle.ll_memory_ops.specs.AllocationParts.{alloca_part, count_part, extent_inside_part, extent_part, integer_part}
use Rattle.ll_memory_ops.specs.AtomicParts.{exchange_orders_part, exchange_part, update_part}
use Rattle.ll_memory_ops.specs.MemoryOpcodes as memory_codes
use Rattle.ll_memory_ops.specs.MemoryOperations as memory_behind
use Rattle.ll_memory_ops.specs.OrderParts.{order_part, scope_part, scoped_order_part, text_part, written_scope_part}
use Rattle.ll_memory_ops.proofs.OpcodesApart as memory_apart
use Rattle.ll_calls.specs.declared.openings.CallOpening.{CallOpening}
use Rattle.ll_calls.specs.declared.openings.CallOpening.TheVariants as opening
use Rattle.ll_calls.specs.CallOpenings.{call_word, opening_word}
use Rattle.ll_calls.specs.CallParts.{argument_of, argument_part, arguments_part, attributes_part, called_part, callee_part, convention_part, function_attributes_part, next_argument_part, some_part}
use Rattle.ll_calls.specs.Calls.{behind_opening, call_part}
use Rattle.ll_calls.proofs.ExactCalls.{exact_argument}
use Rattle.ll_calls.proofs.OpeningsApart.{openings_apart}
use Rattle.ll_bodies.specs.BodyJoins.{no_part}
use Rattle.ll_insts.specs.Operations.{operation_part}
use Rattle.ll_places.proofs.Attributes.{attributes_once}
use Rattle.ll_places.proofs.Joins.{Once, once_either, once_none, once_one_word, once_optional, once_repeated, once_then, once_type_then, once_word_then}
use Rattle.ll_places.proofs.Leaves.{once_behind, once_global, once_local, once_mark, once_nothing, once_number, once_word, unexpected_once}
use Rattle.ll_places.proofs.Types.{once_type}
use Rattle.ll_places.proofs.Values.{once_typed, once_value}

-- operands
once_comma_typed : Once (mark_part 44 then typed_part)
once_comma_typed = once_then _ _ (exact_mark 44) (once_mark 44) once_typed

once_two : Once two_part
once_two = once_then _ _ exact_typed once_typed once_comma_typed

once_three : Once three_part
once_three = once_then _ _ exact_typed once_typed (once_then _ _ (exact_mark 44) (once_mark 44) once_two)

once_one_type : Once one_type_part
once_one_type =
    once_type_then (λ width. value_part width then mark_part 44 then value_part width) once_type
    (λ width. once_then _ _ (exact_value width) (once_value width) (once_then _ _ (exact_mark 44) (once_mark 44) (once_value width)))

once_label : Once label_part
once_label = once_then _ _ (exact_word (codes "label")) (once_word (codes "label")) once_local

-- instructions on values
exact_flags : IsExact value_codes.flags_part
exact_flags = exact_repeated value_codes.any_flag (one_word flag_word) (exact_one_word flag_word) (λ tokens rest d. (rest, d))

once_flags : Once value_codes.flags_part
once_flags = once_repeated value_codes.any_flag (one_word flag_word) (exact_one_word flag_word) (once_one_word flag_word)

once_value_behind : (key : ValueOpcode) → Once (value_behind.behind_opcode key)
once_value_behind (value_opcode.Binary kind) = once_then value_codes.flags_part one_type_part exact_flags once_flags once_one_type
once_value_behind value_opcode.Compare = once_then value_codes.predicate_part one_type_part (exact_one_word predicate_word) (once_one_word predicate_word) once_one_type
once_value_behind value_opcode.Select = once_three
once_value_behind (value_opcode.Cast kind) = once_then _ _ exact_typed once_typed (once_then _ _ (exact_word (codes "to")) (once_word (codes "to")) once_type)
once_value_behind value_opcode.ExtractElement = once_two
once_value_behind value_opcode.InsertElement = once_three
once_value_behind value_opcode.ShuffleVector = once_three
once_value_behind value_opcode.ExtractValue = once_then _ _ exact_typed once_typed (once_then _ _ (exact_mark 44) (once_mark 44) once_number)

once_value_operation : Once value_behind.value_operation_part
once_value_operation = once_word_then value_codes.opcode_word value_behind.behind_opcode value_apart.opcodes_apart once_value_behind

-- instructions of control flow
once_comma_label : Once (mark_part 44 then label_part)
once_comma_label = once_then _ _ (exact_mark 44) (once_mark 44) once_label

exact_label : IsExact label_part
exact_label = exact_then _ _ (exact_word (codes "label")) exact_local

exact_target : IsExact target_part
exact_target = exact_then _ _ exact_typed (exact_then _ _ (exact_mark 44) exact_label)

once_target : Once target_part
once_target = once_then _ _ exact_typed once_typed once_comma_label

once_return : Once return_part
once_return = once_either (word (codes "void")) (word_part (codes "void")) typed_part (once_word (codes "void")) once_typed

once_branch : Once branch_part
once_branch =
    once_either (word (codes "label")) label_part (target_part then mark_part 44 then label_part) once_label
    (once_then _ _ exact_target once_target once_comma_label)

-- a case begins with no `]`, 93
case_begins : (tokens rest : List Lexeme) → target_part.begins tokens rest → Begins no_close tokens
unfolding ◌>>◌
case_begins tokens rest (m, (names, v, d), _) = (tokens, (refl, λ b close. typed_no_mark 93 names v tokens m b (λ e. omega arith) (λ e. omega arith) (λ e. omega arith) d close))

once_cases : Once cases_part
once_cases =
    once_then (repeated no_close target_part) (mark_part 93) (exact_repeated no_close target_part exact_target case_begins)
    (once_repeated no_close target_part exact_target once_target) (once_mark 93)

once_switch : Once switch_part
once_switch = once_then _ _ exact_target once_target (once_then _ _ (exact_mark 91) (once_mark 91) once_cases)

exact_entry : (width : Option ℕ) → IsExact (entry_part width)
exact_entry width = exact_then _ _ (exact_mark 91) (exact_then _ _ (exact_value width) (exact_then _ _ (exact_mark 44) (exact_then _ _ exact_local (exact_mark 93))))

once_entry : (width : Option ℕ) → Once (entry_part width)
once_entry width =
    once_then _ _ (exact_mark 91) (once_mark 91) (once_then _ _ (exact_value width) (once_value width)
    (once_then _ _ (exact_mark 44) (once_mark 44) (once_then _ _ exact_local once_local (once_mark 93))))

once_entries : (width : Option ℕ) → Once (entries_part width)
once_entries width =
    once_then (entry_part width) (repeated entry_comma (next_entry_part width)) (exact_entry width) (once_entry width)
    (once_repeated entry_comma (next_entry_part width) (exact_then _ _ (exact_mark 44) (exact_entry width)) (once_then _ _ (exact_mark 44) (once_mark 44) (once_entry width)))

once_phi : Once phi_part
once_phi = once_type_then entries_part once_type once_entries

once_flow_behind : (key : FlowOpcode) → Once (flow_behind.behind_opcode key)
once_flow_behind flow_opcode.Phi = once_phi
once_flow_behind flow_opcode.Return = once_return
once_flow_behind flow_opcode.Branch = once_branch
once_flow_behind flow_opcode.Switch = once_switch
once_flow_behind flow_opcode.Unreachable = once_nothing

once_flow_operation : Once flow_behind.flow_operation_part
once_flow_operation = once_word_then flow_codes.opcode_word flow_behind.behind_opcode flow_apart.opcodes_apart once_flow_behind

-- scopes, orders and alignments
exact_text : IsExact text_part
exact_text = record { one = token_leaves_one _ _ _; none = λ tokens rest refusal s d. s.0 rest d; ends = token_end _ _ }

exact_written_scope : IsExact written_scope_part
exact_written_scope = exact_then _ _ (exact_word (codes "syncscope")) (exact_then _ _ (exact_mark 40) (exact_then _ _ exact_text (exact_mark 41)))

scope_begins : (tokens rest : List Lexeme) → written_scope_part.begins tokens rest → Begins (word (codes "syncscope")) tokens
unfolding ◌>>◌
scope_begins tokens rest (m, w, _) = (m, w)

exact_scope : IsExact scope_part
exact_scope = exact_optional (word (codes "syncscope")) written_scope_part exact_written_scope scope_begins

once_scope : Once scope_part
once_scope =
    once_optional (word (codes "syncscope")) written_scope_part
    (once_then _ _ (exact_word (codes "syncscope")) (once_word (codes "syncscope")) (once_then _ _ (exact_mark 40) (once_mark 40) (once_then _ _ exact_text (record { refuses = unexpected_once any_text }) (once_mark 41))))

exact_scoped_order : IsExact scoped_order_part
exact_scoped_order = exact_then scope_part order_part exact_scope (exact_one_word order_word)

once_order : Once order_part
once_order = once_one_word order_word

once_scoped_order : Once scoped_order_part
once_scoped_order = once_then scope_part order_part exact_scope once_scope once_order

once_alignment : Once alignment_part
once_alignment = once_then _ _ (exact_mark 44) (once_mark 44) (once_then _ _ (exact_word (codes "align")) (once_word (codes "align")) once_number)

pub once_align : Once align_part
once_align = once_optional align_comma alignment_part once_alignment

-- loads and stores
exact_if_word : (text : List ℕ) → IsExact (if_word_part text)
exact_if_word text = exact_optional (word text) (word_part text) (exact_word text) (λ tokens rest d. (rest, d))

once_if_word : (text : List ℕ) → Once (if_word_part text)
once_if_word text = once_optional (word text) (word_part text) (once_word text)

exact_pointee : IsExact pointee_part
exact_pointee = exact_then _ _ exact_type (exact_then _ _ (exact_mark 44) exact_typed)

once_pointee : Once pointee_part
once_pointee = once_then _ _ exact_type once_type once_comma_typed

once_order_alignment : Once (scoped_order_part then alignment_part)
once_order_alignment = once_then scoped_order_part alignment_part exact_scoped_order once_scoped_order once_alignment

once_load : Once load_part
once_load =
    once_either (word (codes "atomic")) (word_part (codes "atomic") then atomic_load_part) plain_load_part
    (once_then (word_part (codes "atomic")) atomic_load_part (exact_word (codes "atomic")) (once_word (codes "atomic"))
    (once_then pointee_part (scoped_order_part then alignment_part) exact_pointee once_pointee once_order_alignment))
    (once_then (if_word_part (codes "volatile")) (pointee_part then align_part) (exact_if_word (codes "volatile")) (once_if_word (codes "volatile"))
    (once_then pointee_part align_part exact_pointee once_pointee once_align))

once_store : Once store_part
once_store =
    once_either (word (codes "atomic")) (word_part (codes "atomic") then atomic_store_part) plain_store_part
    (once_then (word_part (codes "atomic")) atomic_store_part (exact_word (codes "atomic")) (once_word (codes "atomic"))
    (once_then two_part (scoped_order_part then alignment_part) exact_two once_two once_order_alignment))
    (once_then (if_word_part (codes "volatile")) (two_part then align_part) (exact_if_word (codes "volatile")) (once_if_word (codes "volatile"))
    (once_then two_part align_part exact_two once_two once_align))

-- allocations
exact_integer : (width : Option ℕ) → IsExact (integer_part width)
exact_integer width = record {
  one = λ tokens a b d e. token_leaves_one _ _ _ tokens a b d.1 e.1;
  none = λ tokens rest refusal s d. s.0 d.0 rest d.1;
  ends = λ tokens rest d. token_end _ _ tokens rest d.1;
}

once_count : Once count_part
once_count = once_type_then integer_part once_type (λ width. record { refuses = λ tokens r s d e. d.1 ∙ sym e.1 })

once_extent_inside : Once extent_inside_part
once_extent_inside =
    once_either (word (codes "align")) (word_part (codes "align") then number_part) (count_part then align_part)
    (once_then _ _ (exact_word (codes "align")) (once_word (codes "align")) once_number)
    (once_then count_part align_part (exact_type_then integer_part exact_integer) once_count once_align)

once_alloca : Once alloca_part
once_alloca =
    once_then type_part extent_part exact_type once_type
    (once_optional operand_comma (mark_part 44 then extent_inside_part) (once_then (mark_part 44) extent_inside_part (exact_mark 44) (once_mark 44) once_extent_inside))

-- addresses, exchanges and updates
exact_index : IsExact index_part
exact_index = exact_then _ _ (exact_mark 44) exact_typed

once_indexes : Once indexes_part
once_indexes = once_then index_part (repeated operand_comma index_part) exact_index once_comma_typed (once_repeated operand_comma index_part exact_index once_comma_typed)

once_address : Once address_part
once_address =
    once_then (if_word_part (codes "inbounds")) (pointee_part then indexes_part) (exact_if_word (codes "inbounds")) (once_if_word (codes "inbounds"))
    (once_then pointee_part indexes_part exact_pointee once_pointee once_indexes)

once_exchange : Once exchange_part
once_exchange =
    once_then three_part (exchange_orders_part then align_part) exact_three once_three
    (once_then exchange_orders_part align_part (exact_then scoped_order_part order_part exact_scoped_order (exact_one_word order_word))
    (once_then scoped_order_part order_part exact_scoped_order once_scoped_order once_order) once_align)

once_update : Once update_part
once_update =
    once_then (one_word rmw_word) (two_part then scoped_order_part then align_part) (exact_one_word rmw_word) (once_one_word rmw_word)
    (once_then two_part (scoped_order_part then align_part) exact_two once_two (once_then scoped_order_part align_part exact_scoped_order once_scoped_order once_align))

once_memory_behind : (key : MemoryOpcode) → Once (memory_behind.behind_opcode key)
once_memory_behind memory_opcode.Alloca = once_alloca
once_memory_behind memory_opcode.Load = once_load
once_memory_behind memory_opcode.Store = once_store
once_memory_behind memory_opcode.Fence = once_scoped_order
once_memory_behind memory_opcode.CompareExchange = once_exchange
once_memory_behind memory_opcode.AtomicRmw = once_update
once_memory_behind memory_opcode.GetElementPtr = once_address

once_memory_operation : Once memory_behind.memory_operation_part
once_memory_operation = once_word_then memory_codes.opcode_word memory_behind.behind_opcode memory_apart.opcodes_apart once_memory_behind

-- calls
once_attributes : Once attributes_part
once_attributes = record { refuses = attributes_once }

convention_end : EndsBy call_convention
convention_end tokens rest (inl d) = token_end _ _ tokens rest d
convention_end tokens rest (inr d) = token_end _ _ tokens rest d

exact_convention : IsExact convention_part
exact_convention = exact_maybe call_convention (words_one (codes "spir_kernel") (codes "spir_func")) convention_end

exact_callee : IsExact callee_part
exact_callee = exact_then convention_part (attributes_part then type_part then global_part) exact_convention (exact_then _ _ exact_attributes (exact_then _ _ exact_type exact_global))

once_callee : Once callee_part
once_callee =
    once_behind (maybe_here call_convention) (attributes_part then type_part then global_part) exact_convention.one
    (once_then _ _ exact_attributes once_attributes (once_then _ _ exact_type once_type once_global))

once_argument : Once argument_part
once_argument = once_type_then argument_of once_type (λ width. once_then attributes_part (value_part width) exact_attributes once_attributes (once_value width))

exact_next : IsExact next_argument_part
exact_next = exact_then _ _ (exact_mark 44) exact_argument

next_opens : (tokens rest : List Lexeme) → next_argument_part.begins tokens rest → Begins (mark 44) tokens
unfolding ◌>>◌
next_opens tokens rest (m, comma, _) = (m, comma)

exact_some : IsExact some_part
exact_some = exact_then argument_part (repeated (mark 44) next_argument_part) exact_argument (exact_repeated (mark 44) next_argument_part exact_next next_opens)

once_some : Once some_part
once_some =
    once_then argument_part (repeated (mark 44) next_argument_part) exact_argument once_argument
    (once_repeated (mark 44) next_argument_part exact_next (once_then _ _ (exact_mark 44) (once_mark 44) once_argument))

exact_arguments : IsExact arguments_part
exact_arguments = exact_either (mark 41) (mark_part 41) (some_part then mark_part 41) (exact_mark 41) (exact_then _ _ exact_some (exact_mark 41)) (λ tokens rest d. (rest, d))

once_arguments : Once arguments_part
once_arguments = once_either (mark 41) (mark_part 41) (some_part then mark_part 41) (once_mark 41) (once_then _ _ exact_some once_some (once_mark 41))

once_called : Once called_part
once_called =
    once_then callee_part (mark_part 40 then arguments_part then function_attributes_part) exact_callee once_callee
    (once_then _ _ (exact_mark 40) (once_mark 40) (once_then arguments_part function_attributes_part exact_arguments once_arguments (record { refuses = function_attributes_once })))

once_behind_tail : Once (word_part (codes "call") then called_part)
once_behind_tail = once_then (word_part (codes "call")) called_part (exact_word (codes "call")) (once_word (codes "call")) once_called

once_behind_opening : (key : CallOpening) → Once (behind_opening key)
once_behind_opening opening.Tail = once_behind_tail
once_behind_opening opening.NoTail = once_behind_tail
once_behind_opening opening.Call = once_called

once_call : Once call_part
once_call = once_word_then opening_word behind_opening openings_apart once_behind_opening

pub once_operation : Once operation_part
unfolding operation_part
once_operation =
    once_either _ _ _ once_value_operation (once_either _ _ _ once_flow_operation (once_either _ _ _ once_memory_operation (once_either call_word call_part no_part once_call once_none)))
