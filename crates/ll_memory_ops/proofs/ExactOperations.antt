-- The parts of which instructions on memory consist are exact.
use Rattle.std.proofs.Common.{ℕ, List, codes, Option, inl, inr}
use Rattle.ll_tokens.specs.declared.kinds.TokenKind.TheVariants.{MdName, Word}
use Rattle.ll_tokens.specs.Tokens.{Lexeme}
use Rattle.ll_parser.specs.GrammarInsts.{order_word, rmw_word}
use Rattle.ll_parser.specs.Productions.{◌>>◌, word}
use Rattle.ll_parser.proofs.EndFacts.{token_ends}
use Rattle.ll_parser.proofs.TokenFacts.{token_leaves_one}
use Rattle.ll_types.proofs.Tokens.{kinds_apart, token_end}
use Rattle.ll_operands.specs.Operands.{three_part, two_part}
use Rattle.ll_operands.specs.Parts.{Begins, mark_part, number_part, one_word, operand_comma, repeated, ◌then◌, type_part, typed_part, word_part}
use Rattle.ll_operands.specs.Whole.{align_comma}
use Rattle.ll_operands.proofs.OperandFacts.{exact_three, exact_two}
use Rattle.ll_operands.proofs.PartFacts.{IsExact, exact_either, exact_mark, exact_number, exact_one_word, exact_optional, exact_repeated, exact_then, exact_type, exact_type_then, exact_typed, exact_word, exact_word_then}
use Rattle.ll_operands.proofs.TypeBegins.{type_no_name, typed_no_name}
use Rattle.ll_memory_ops.specs.declared.opcodes.MemoryOpcode.{MemoryOpcode}
use Rattle.ll_memory_ops.specs.declared.opcodes.MemoryOpcode.TheVariants as opcode
use Rattle.ll_memory_ops.specs.AccessParts.{align_part, alignment_part, atomic_load_part, atomic_store_part, if_word_part, load_part, plain_load_part, plain_store_part, pointee_part, store_part}
use Rattle.ll_memory_ops.specs.AddressParts.{address_part, index_part, indexes_part}
use Rattle.ll_memory_ops.specs.AllocationParts.{alloca_part, count_part, extent_inside_part, extent_part, integer_part}
use Rattle.ll_memory_ops.specs.AtomicParts.{exchange_orders_part, exchange_part, update_part}
use Rattle.ll_memory_ops.specs.MemoryOpcodes.{opcode_word}
use Rattle.ll_memory_ops.specs.MemoryOperations.{behind_opcode, memory_operation_part}
use Rattle.ll_memory_ops.specs.OrderParts.{order_part, scope_part, scoped_order_part, text_part, written_scope_part}
use Rattle.ll_memory_ops.proofs.OpcodesApart.{opcodes_apart}

-- scopes and orders
exact_text : IsExact text_part
exact_text = record { one = token_leaves_one _ _ _; none = λ tokens rest refusal s d. s.0 rest d; ends = token_end _ _ }

exact_written_scope : IsExact written_scope_part
exact_written_scope =
    exact_then (word_part (codes "syncscope")) (mark_part 40 then text_part then mark_part 41) (exact_word (codes "syncscope"))
    (exact_then (mark_part 40) (text_part then mark_part 41) (exact_mark 40) (exact_then text_part (mark_part 41) exact_text (exact_mark 41)))

scope_begins : (tokens rest : List Lexeme) → written_scope_part.begins tokens rest → Begins (word (codes "syncscope")) tokens
unfolding ◌>>◌
scope_begins tokens rest (m, w, _) = (m, w)

exact_scope : IsExact scope_part
exact_scope = exact_optional (word (codes "syncscope")) written_scope_part exact_written_scope scope_begins

exact_scoped_order : IsExact scoped_order_part
exact_scoped_order = exact_then scope_part order_part exact_scope (exact_one_word order_word)

-- alignments
exact_alignment : IsExact alignment_part
exact_alignment =
    exact_then (mark_part 44) (word_part (codes "align") then number_part) (exact_mark 44)
    (exact_then (word_part (codes "align")) number_part (exact_word (codes "align")) exact_number)

alignment_begins : (tokens rest : List Lexeme) → alignment_part.begins tokens rest → Begins align_comma tokens
unfolding ◌>>◌
alignment_begins tokens rest (m, comma, (n, w, _)) = (n, (m, comma, w))

exact_align : IsExact align_part
exact_align = exact_optional align_comma alignment_part exact_alignment alignment_begins

-- loads and stores
exact_if_word : (text : List ℕ) → IsExact (if_word_part text)
exact_if_word text = exact_optional (word text) (word_part text) (exact_word text) (λ tokens rest d. (rest, d))

exact_pointee : IsExact pointee_part
exact_pointee = exact_then type_part (mark_part 44 then typed_part) exact_type (exact_then (mark_part 44) typed_part (exact_mark 44) exact_typed)

exact_plain_load : IsExact plain_load_part
exact_plain_load =
    exact_then (if_word_part (codes "volatile")) (pointee_part then align_part) (exact_if_word (codes "volatile")) (exact_then pointee_part align_part exact_pointee exact_align)

exact_atomic_load : IsExact atomic_load_part
exact_atomic_load =
    exact_then pointee_part (scoped_order_part then alignment_part) exact_pointee (exact_then scoped_order_part alignment_part exact_scoped_order exact_alignment)

atomic_load_begins : (tokens rest : List Lexeme) → (word_part (codes "atomic") then atomic_load_part).begins tokens rest → Begins (word (codes "atomic")) tokens
unfolding ◌>>◌
atomic_load_begins tokens rest (m, w, _) = (m, w)

exact_load : IsExact load_part
exact_load =
    exact_either (word (codes "atomic")) (word_part (codes "atomic") then atomic_load_part) plain_load_part
    (exact_then (word_part (codes "atomic")) atomic_load_part (exact_word (codes "atomic")) exact_atomic_load) exact_plain_load atomic_load_begins

exact_plain_store : IsExact plain_store_part
exact_plain_store =
    exact_then (if_word_part (codes "volatile")) (two_part then align_part) (exact_if_word (codes "volatile")) (exact_then two_part align_part exact_two exact_align)

exact_atomic_store : IsExact atomic_store_part
exact_atomic_store =
    exact_then two_part (scoped_order_part then alignment_part) exact_two (exact_then scoped_order_part alignment_part exact_scoped_order exact_alignment)

atomic_store_begins : (tokens rest : List Lexeme) → (word_part (codes "atomic") then atomic_store_part).begins tokens rest → Begins (word (codes "atomic")) tokens
unfolding ◌>>◌
atomic_store_begins tokens rest (m, w, _) = (m, w)

exact_store : IsExact store_part
exact_store =
    exact_either (word (codes "atomic")) (word_part (codes "atomic") then atomic_store_part) plain_store_part
    (exact_then (word_part (codes "atomic")) atomic_store_part (exact_word (codes "atomic")) exact_atomic_store) exact_plain_store atomic_store_begins

-- allocations
exact_integer : (width : Option ℕ) → IsExact (integer_part width)
exact_integer width = record {
  one = λ tokens a b d e. token_leaves_one _ _ _ tokens a b d.1 e.1;
  none = λ tokens rest refusal s d. s.0 d.0 rest d.1;
  ends = λ tokens rest d. token_ends _ _ tokens rest d.1;
}

exact_count : IsExact count_part
exact_count = exact_type_then integer_part exact_integer

align_begins : (tokens rest : List Lexeme) → (word_part (codes "align") then number_part).begins tokens rest → Begins (word (codes "align")) tokens
unfolding ◌>>◌
align_begins tokens rest (m, w, _) = (m, w)

exact_extent_inside : IsExact extent_inside_part
exact_extent_inside =
    exact_either (word (codes "align")) (word_part (codes "align") then number_part) (count_part then align_part)
    (exact_then (word_part (codes "align")) number_part (exact_word (codes "align")) exact_number) (exact_then count_part align_part exact_count exact_align) align_begins

-- no attachment's name stands behind the comma
extent_begins : (tokens rest : List Lexeme) → (mark_part 44 then extent_inside_part).begins tokens rest → Begins operand_comma tokens
unfolding ◌>>◌
extent_begins tokens rest (m, comma, inl (n, w, _)) = (m, (comma, λ b x. kinds_apart Word MdName _ _ m n b (λ e. cc) w x))
extent_begins tokens rest (m, comma, inr (_, (_, (names, t, n, d, _), _))) = (m, (comma, type_no_name names t m n d.0))

exact_extent : IsExact extent_part
exact_extent = exact_optional operand_comma (mark_part 44 then extent_inside_part) (exact_then (mark_part 44) extent_inside_part (exact_mark 44) exact_extent_inside) extent_begins

exact_alloca : IsExact alloca_part
exact_alloca = exact_then type_part extent_part exact_type exact_extent

-- addresses
exact_index : IsExact index_part
exact_index = exact_then (mark_part 44) typed_part (exact_mark 44) exact_typed

index_begins : (tokens rest : List Lexeme) → index_part.begins tokens rest → Begins operand_comma tokens
unfolding ◌>>◌
index_begins tokens rest (m, comma, (names, v, d)) = (m, (comma, typed_no_name names v m rest d))

exact_indexes : IsExact indexes_part
exact_indexes = exact_then index_part (repeated operand_comma index_part) exact_index (exact_repeated operand_comma index_part exact_index index_begins)

exact_address : IsExact address_part
exact_address =
    exact_then (if_word_part (codes "inbounds")) (pointee_part then indexes_part) (exact_if_word (codes "inbounds")) (exact_then pointee_part indexes_part exact_pointee exact_indexes)

-- atomic exchanges and updates
exact_exchange_orders : IsExact exchange_orders_part
exact_exchange_orders = exact_then scoped_order_part order_part exact_scoped_order (exact_one_word order_word)

exact_exchange : IsExact exchange_part
exact_exchange =
    exact_then three_part (exchange_orders_part then align_part) exact_three (exact_then exchange_orders_part align_part exact_exchange_orders exact_align)

exact_update : IsExact update_part
exact_update =
    exact_then (one_word rmw_word) (two_part then scoped_order_part then align_part) (exact_one_word rmw_word)
    (exact_then two_part (scoped_order_part then align_part) exact_two (exact_then scoped_order_part align_part exact_scoped_order exact_align))

pub exact_behind : (key : MemoryOpcode) → IsExact (behind_opcode key)
exact_behind opcode.Alloca = exact_alloca
exact_behind opcode.Load = exact_load
exact_behind opcode.Store = exact_store
exact_behind opcode.Fence = exact_scoped_order
exact_behind opcode.CompareExchange = exact_exchange
exact_behind opcode.AtomicRmw = exact_update
exact_behind opcode.GetElementPtr = exact_address

-- an instruction on memory leaves one list of tokens, and those that are refused begin with none
pub exact_memory_operation : IsExact memory_operation_part
exact_memory_operation = exact_word_then opcode_word behind_opcode opcodes_apart exact_behind
