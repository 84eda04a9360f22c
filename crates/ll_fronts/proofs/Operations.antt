-- Operations are refused up to the place alone; behind some, a comma and the token behind it say whether they go on.
use Rattle.std.proofs.Common.{◌≡◌, ℕ, List, [], ◌∷◌, codes, refl, sym, ap, ◌∙◌, subst, Option}
use Rattle.ll_tokens.specs.declared.kinds.TokenKind.TheVariants.{MdName}
use Rattle.ll_tokens.specs.Tokens.{Lexeme}
use Rattle.ll_parser.specs.GrammarInsts.{flag_word, order_word, predicate_word, rmw_word}
use Rattle.ll_parser.specs.GrammarItems.{any_text}
use Rattle.ll_parser.specs.NameReading.{any_of}
use Rattle.ll_parser.specs.Productions.{Production, ◌>>◌, mark, word}
use Rattle.ll_parser.specs.Reading.{DerivesNone, EndsNowhere, number_rule}
use Rattle.ll_parser.proofs.TokenFacts.{same_first, same_rest}
use Rattle.ll_attributes.specs.Heads.{call_convention}
use Rattle.ll_attributes.specs.Lists.{maybe_here}
use Rattle.ll_operands.specs.Operands.{label_part, one_type_part, three_part, two_part}
use Rattle.ll_operands.specs.Parts.{Begins, Part, global_part, mark_part, number_part, one_word, operand_comma, repeated, ◌then◌, type_part, typed_part, value_part, word_part}
use Rattle.ll_operands.specs.Whole.{align_comma, entry_comma}
use Rattle.ll_value_ops.specs.declared.opcodes.ValueOpcode.{ValueOpcode}
use Rattle.ll_value_ops.specs.declared.opcodes.ValueOpcode.TheVariants as value_opcode
use Rattle.ll_value_ops.specs.ValueOpcodes as value_codes
use Rattle.ll_value_ops.specs.ValueOperations as value_behind
use Rattle.ll_flow_ops.specs.declared.opcodes.FlowOpcode.{FlowOpcode}
use Rattle.ll_flow_ops.specs.declared.opcodes.FlowOpcode.TheVariants as flow_opcode
use Rattle.ll_flow_ops.specs.FlowOpcodes as flow_codes
use Rattle.ll_flow_ops.specs.FlowOperations as flow_behind
use Rattle.ll_flow_ops.specs.FlowParts.{branch_part, cases_part, entries_part, entry_part, next_entry_part, no_close, return_part, switch_part, target_part}
use Rattle.ll_memory_ops.specs.declared.opcodes.MemoryOpcode.{MemoryOpcode}
use Rattle.ll_memory_ops.specs.declared.opcodes.MemoryOpcode.TheVariants as memory_opcode
use Rattle.ll_memory_ops.specs.AccessParts.{align_part, alignment_part, atomic_load_part, atomic_store_part, if_word_part, load_part, plain_load_part, plain_store_part, pointee_part, store_part}
use Rattle.ll_memory_ops.specs.AddressParts.{index_part, indexes_part}
use Rattle.ll_memory_ops.specs.AllocationParts.{count_part, extent_inside_part, extent_part, integer_of, integer_part}
use Rattle.ll_memory_ops.specs.AtomicParts.{exchange_orders_part, exchange_part}
use Rattle.ll_memory_ops.specs.MemoryOpcodes as memory_codes
use Rattle.ll_memory_ops.specs.MemoryOperations as memory_behind
use Rattle.ll_memory_ops.specs.OrderParts.{order_part, scope_part, scoped_order_part, text_part, written_scope_part}
use Rattle.ll_calls.specs.declared.openings.CallOpening.{CallOpening}
use Rattle.ll_calls.specs.declared.openings.CallOpening.TheVariants as opening
use Rattle.ll_calls.specs.CallOpenings.{call_word, opening_word}
use Rattle.ll_calls.specs.CallParts.{argument_of, argument_part, arguments_part, attributes_part, called_part, callee_part, function_attributes_part, convention_part, next_argument_part, some_part}
use Rattle.ll_calls.specs.Calls.{behind_opening, call_part}
use Rattle.ll_bodies.specs.BodyJoins.{no_part}
use Rattle.ll_insts.specs.Operations.{operation_part}
use Rattle.ll_fronts.proofs.Attributes.{attributes_settle, function_attributes_settle, keeps_attributes, keeps_function_attributes, keeps_maybe}
use Rattle.ll_front_parts.proofs.Fronts.{IsComma, IsLocal, Sees, Sight, keeps_token, one, sees_no_mark, sees_none, sees_nowhere, sees_token, settled_first, two}
use Rattle.ll_front_parts.proofs.Joins.{keeps_any, keeps_nothing, keeps_or, local_at, local_either, local_mark, local_one_word, local_optional, local_optional_two, local_repeated, local_repeated_two, local_then, local_word, local_word_then, passes_comma, sees_one_word, sees_or}
use Rattle.ll_fronts.proofs.Joins.{local_free, local_none, local_sole}
use Rattle.ll_front_parts.proofs.Types.{local_global, local_local, local_number, local_type, local_type_then}
use Rattle.ll_front_parts.proofs.Values.{local_typed, local_value}

-- a comma, and what the token behind it says
comma_sees : (test : List Lexeme → Type 0) → Sees one test → Sees two (Begins (λ tokens rest. mark 44 tokens rest × test rest))
comma_sees test sees [] [] same d = d
comma_sees test sees [] (y ∷ ys) same d = absurd same
comma_sees test sees (x ∷ xs) [] same d = absurd same
comma_sees test sees (x ∷ xs) (y ∷ ys) same (rest, ((l, is, kind, text), tested)) =
    let first : x ≡ l = same_first x l xs rest is in
    let behind : xs ≡ rest = same_rest x l xs rest is in
    (ys, ((l, ap (λ z. z ∷ ys) (sym same.0 ∙ first), kind, text), sees xs ys (same.1 (subst IsComma (sym first) (kind, text))) (subst test (sym behind) tested)))

comma_then_sees : (p : Production) → Sees one (Begins p) → Sees two (Begins (mark 44 >> p))
unfolding ◌>>◌
comma_then_sees p sees a b same (rest, (m, comma, d)) =
    let found = comma_sees (Begins p) sees a b same (m, (comma, (rest, d))) in
    (found.1.1.0, (found.0, found.1.0, found.1.1.1))

pub sees_align : Sees two (Begins align_comma)
sees_align = comma_then_sees (word (codes "align")) (sees_token _ _)

sees_entry : Sees two (Begins entry_comma)
sees_entry = comma_then_sees (mark 91) (sees_token _ _)

sees_operand : Sees two (Begins operand_comma)
sees_operand = comma_sees (EndsNowhere (any_of MdName)) (sees_nowhere one (any_of MdName) (sees_token _ _))

-- behind a comma, 44
behind_comma : (sight : Sight) (p : Part) → IsLocal sight p → IsLocal sight (mark_part 44 then p)
behind_comma sight p l = local_then sight (mark_part 44) p (local_mark 44) l

-- operands
local_two : IsLocal one two_part
local_two = local_then one typed_part (mark_part 44 then typed_part) local_typed (behind_comma one typed_part local_typed)

local_three : IsLocal one three_part
local_three = local_then one typed_part (mark_part 44 then two_part) local_typed (behind_comma one two_part local_two)

local_one_type : IsLocal one one_type_part
local_one_type =
    local_type_then one (λ width. value_part width then mark_part 44 then value_part width)
    (λ width. local_then one (value_part width) (mark_part 44 then value_part width) (local_value width) (behind_comma one (value_part width) (local_value width)))

local_label : IsLocal one label_part
local_label = local_then one _ _ (local_word (codes "label")) local_local

-- instructions on values
local_value_behind : (key : ValueOpcode) → IsLocal one (value_behind.behind_opcode key)
local_value_behind (value_opcode.Binary kind) =
    local_then one value_codes.flags_part one_type_part
    (local_repeated value_codes.any_flag (one_word flag_word) (sees_one_word flag_word) (local_one_word flag_word)) local_one_type
local_value_behind value_opcode.Compare = local_then one value_codes.predicate_part one_type_part (local_one_word predicate_word) local_one_type
local_value_behind value_opcode.Select = local_three
local_value_behind (value_opcode.Cast kind) =
    local_then one typed_part (word_part (codes "to") then type_part) local_typed (local_then one _ _ (local_word (codes "to")) local_type)
local_value_behind value_opcode.ExtractElement = local_two
local_value_behind value_opcode.InsertElement = local_three
local_value_behind value_opcode.ShuffleVector = local_three
local_value_behind value_opcode.ExtractValue = local_then one typed_part (mark_part 44 then number_part) local_typed (behind_comma one number_part local_number)

-- instructions of control flow
local_target : IsLocal one target_part
local_target = local_then one typed_part (mark_part 44 then label_part) local_typed (behind_comma one label_part local_label)

sees_no_close : Sees one (Begins no_close)
sees_no_close a b same (rest, d) = (b, (refl, sees_no_mark 93 a b same d.1))

local_cases : IsLocal one cases_part
local_cases = local_then one (repeated no_close target_part) (mark_part 93) (local_repeated no_close target_part sees_no_close local_target) (local_mark 93)

local_entry : (width : Option ℕ) → IsLocal one (entry_part width)
local_entry width =
    local_then one (mark_part 91) _ (local_mark 91) (local_then one (value_part width) _ (local_value width)
    (behind_comma one _ (local_then one _ _ local_local (local_mark 93))))

local_entries : (width : Option ℕ) → IsLocal two (entries_part width)
local_entries width =
    local_then two (entry_part width) (repeated entry_comma (next_entry_part width)) (local_entry width)
    (local_repeated_two (next_entry_part width) (passes_comma (entry_part width) (local_entry width).settles) entry_comma sees_entry
    (behind_comma one (entry_part width) (local_entry width)))

local_flow_behind : (key : FlowOpcode) → IsLocal two (flow_behind.behind_opcode key)
local_flow_behind flow_opcode.Phi = local_type_then two entries_part local_entries
local_flow_behind flow_opcode.Return =
    local_at two return_part (local_either one (word (codes "void")) (word_part (codes "void")) typed_part (sees_token _ _) (local_word (codes "void")) local_typed)
local_flow_behind flow_opcode.Branch =
    local_at two branch_part (local_either one (word (codes "label")) label_part (target_part then mark_part 44 then label_part) (sees_token _ _) local_label
    (local_then one target_part (mark_part 44 then label_part) local_target (behind_comma one label_part local_label)))
local_flow_behind flow_opcode.Switch =
    local_at two switch_part (local_then one target_part (mark_part 91 then cases_part) local_target
    (local_then one (mark_part 91) cases_part (local_mark 91) local_cases))
local_flow_behind flow_opcode.Unreachable = record { keeps = keeps_nothing two; settles = λ tokens refusal d less. absurd d }

-- scopes, orders and alignments
local_scoped_order : IsLocal one scoped_order_part
local_scoped_order =
    local_then one scope_part order_part
    (local_optional one (word (codes "syncscope")) written_scope_part (sees_token _ _)
    (local_then one _ _ (local_word (codes "syncscope"))
    (local_then one _ _ (local_mark 40) (local_then one text_part (mark_part 41) (local_sole any_text (sees_token _ _) (keeps_token _ _)) (local_mark 41)))))
    (local_one_word order_word)

local_written_align : IsLocal one (word_part (codes "align") then number_part)
local_written_align = local_then one _ _ (local_word (codes "align")) local_number

pub local_alignment : IsLocal one alignment_part
local_alignment = behind_comma one (word_part (codes "align") then number_part) local_written_align

pub local_align : IsLocal two align_part
local_align =
    local_optional_two alignment_part (passes_comma (word_part (codes "align") then number_part) local_written_align.settles) align_comma sees_align
    (local_at two alignment_part local_alignment)

-- loads and stores
local_if_word : (text : List ℕ) → IsLocal one (if_word_part text)
local_if_word text = local_optional one (word text) (word_part text) (sees_token _ _) (local_word text)

local_pointee : IsLocal one pointee_part
local_pointee = local_then one type_part (mark_part 44 then typed_part) local_type (behind_comma one typed_part local_typed)

-- an access of memory, behind its opcode: an atomic one has an order, and any other may be volatile
local_access : (p : Part) → IsLocal one p → IsLocal two (if_word_part (codes "volatile") then p then align_part)
local_access p l =
    local_then two (if_word_part (codes "volatile")) (p then align_part) (local_if_word (codes "volatile")) (local_then two p align_part l local_align)

local_atomic : (p : Part) → IsLocal one p → IsLocal two (word_part (codes "atomic") then p then scoped_order_part then alignment_part)
local_atomic p l =
    local_at two (word_part (codes "atomic") then p then scoped_order_part then alignment_part)
    (local_then one (word_part (codes "atomic")) (p then scoped_order_part then alignment_part) (local_word (codes "atomic"))
    (local_then one p (scoped_order_part then alignment_part) l (local_then one scoped_order_part alignment_part local_scoped_order local_alignment)))

local_load : IsLocal two load_part
local_load =
    local_either two (word (codes "atomic")) (word_part (codes "atomic") then atomic_load_part) plain_load_part (sees_token _ _)
    (local_atomic pointee_part local_pointee) (local_access pointee_part local_pointee)

local_store : IsLocal two store_part
local_store =
    local_either two (word (codes "atomic")) (word_part (codes "atomic") then atomic_store_part) plain_store_part (sees_token _ _)
    (local_atomic two_part local_two) (local_access two_part local_two)

-- allocations
local_integer : (width : Option ℕ) → IsLocal one (integer_part width)
local_integer width = record {
  keeps = keeps_any one (integer_of width) (λ n. keeps_token _ _);
  settles = settled_first (DerivesNone (integer_of width)) number_rule (sees_none (integer_of width) (λ n. sees_token _ _)) (λ l a b. refl);
}

local_extent_inside : IsLocal two extent_inside_part
local_extent_inside =
    local_either two (word (codes "align")) (word_part (codes "align") then number_part) (count_part then align_part) (sees_token _ _)
    (local_at two (word_part (codes "align") then number_part) local_written_align)
    (local_then two count_part align_part (local_type_then one integer_part local_integer) local_align)

local_extent : IsLocal two extent_part
local_extent =
    local_optional_two (mark_part 44 then extent_inside_part) (passes_comma extent_inside_part local_extent_inside.settles) operand_comma sees_operand
    (behind_comma two extent_inside_part local_extent_inside)

-- addresses
local_index : IsLocal one index_part
local_index = behind_comma one typed_part local_typed

local_indexes : IsLocal two indexes_part
local_indexes =
    local_then two index_part (repeated operand_comma index_part) local_index
    (local_repeated_two index_part (passes_comma typed_part local_typed.settles) operand_comma sees_operand local_index)

local_exchange : IsLocal two exchange_part
local_exchange =
    local_then two three_part (exchange_orders_part then align_part) local_three
    (local_then two exchange_orders_part align_part (local_then one scoped_order_part order_part local_scoped_order (local_one_word order_word)) local_align)

local_memory_behind : (key : MemoryOpcode) → IsLocal two (memory_behind.behind_opcode key)
local_memory_behind memory_opcode.Alloca = local_then two type_part extent_part local_type local_extent
local_memory_behind memory_opcode.Load = local_load
local_memory_behind memory_opcode.Store = local_store
local_memory_behind memory_opcode.Fence = local_at two scoped_order_part local_scoped_order
local_memory_behind memory_opcode.CompareExchange = local_exchange
local_memory_behind memory_opcode.AtomicRmw =
    local_then two (one_word rmw_word) (two_part then scoped_order_part then align_part) (local_one_word rmw_word)
    (local_then two two_part (scoped_order_part then align_part) local_two (local_then two scoped_order_part align_part local_scoped_order local_align))
local_memory_behind memory_opcode.GetElementPtr =
    local_then two (if_word_part (codes "inbounds")) (pointee_part then indexes_part) (local_if_word (codes "inbounds"))
    (local_then two pointee_part indexes_part local_pointee local_indexes)

-- calls
pub local_attributes : IsLocal one attributes_part
local_attributes = record { keeps = keeps_attributes; settles = attributes_settle }

sees_convention : Sees one (Begins call_convention)
sees_convention = sees_or one (word (codes "spir_kernel")) (word (codes "spir_func")) (sees_token _ _) (sees_token _ _)

local_callee : IsLocal one callee_part
local_callee =
    local_then one convention_part (attributes_part then type_part then global_part)
    (local_free (maybe_here call_convention) (keeps_maybe call_convention sees_convention
    (keeps_or one (word (codes "spir_kernel")) (word (codes "spir_func")) (keeps_token _ _) (keeps_token _ _))))
    (local_then one attributes_part (type_part then global_part) local_attributes (local_then one _ _ local_type local_global))

local_argument : IsLocal one argument_part
local_argument = local_type_then one argument_of (λ width. local_then one attributes_part (value_part width) local_attributes (local_value width))

local_arguments : IsLocal one arguments_part
local_arguments =
    local_either one (mark 41) (mark_part 41) (some_part then mark_part 41) (sees_token _ _) (local_mark 41)
    (local_then one some_part (mark_part 41)
    (local_then one argument_part (repeated (mark 44) next_argument_part) local_argument
    (local_repeated (mark 44) next_argument_part (sees_token _ _) (behind_comma one argument_part local_argument)))
    (local_mark 41))

local_called : IsLocal one called_part
local_called =
    local_then one callee_part (mark_part 40 then arguments_part then function_attributes_part) local_callee
    (local_then one (mark_part 40) (arguments_part then function_attributes_part) (local_mark 40)
    (local_then one arguments_part function_attributes_part local_arguments (record { keeps = keeps_function_attributes; settles = function_attributes_settle })))

local_behind_opening : (key : CallOpening) → IsLocal one (behind_opening key)
local_behind_opening opening.Tail = local_then one (word_part (codes "call")) called_part (local_word (codes "call")) local_called
local_behind_opening opening.NoTail = local_then one (word_part (codes "call")) called_part (local_word (codes "call")) local_called
local_behind_opening opening.Call = local_called

pub local_operation : IsLocal two operation_part
unfolding operation_part
local_operation =
    local_either two value_codes.value_word value_behind.value_operation_part _ (sees_one_word value_codes.opcode_word)
    (local_at two value_behind.value_operation_part (local_word_then one value_codes.opcode_word value_behind.behind_opcode local_value_behind))
    (local_either two flow_codes.flow_word flow_behind.flow_operation_part _ (sees_one_word flow_codes.opcode_word)
    (local_word_then two flow_codes.opcode_word flow_behind.behind_opcode local_flow_behind)
    (local_either two memory_codes.memory_word memory_behind.memory_operation_part _ (sees_one_word memory_codes.opcode_word)
    (local_word_then two memory_codes.opcode_word memory_behind.behind_opcode local_memory_behind)
    (local_either two call_word call_part no_part (sees_one_word opening_word)
    (local_at two call_part (local_word_then one opening_word behind_opening local_behind_opening)) (local_none two))))
