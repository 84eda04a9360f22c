-- What the grammar derives of instructions on memory is of the part.
use Rattle.std.proofs.Common.{ℕ, Bool, true, false, List, [], ◌∷◌, codes, Option, inl, inr, sym, subst, arith}
use Rattle.ll_tokens.specs.Tokens.{Lexeme}
use Rattle.ll_tree.specs.declared.name.NameText.{NameText}
use Rattle.ll_tree.specs.declared.op.Op.{Op}
use Rattle.ll_tree.specs.declared.op.Op.TheVariants as op
use Rattle.ll_tree.specs.declared.op.Order.{Order}
use Rattle.ll_tree.specs.declared.ty.LlType.{LlType}
use Rattle.ll_tree.specs.declared.value.TypedValue.{TypedValue}
use Rattle.ll_parser.specs.GrammarInsts.{order, scope}
use Rattle.ll_parser.specs.GrammarTypes.{ty}
use Rattle.ll_parser.specs.GrammarValues.{if_word, typed}
use Rattle.ll_parser.specs.Productions.{Production, ◌>>◌, mark, word}
use Rattle.ll_parser.specs.Reading.{EndsNowhere}
use Rattle.ll_types.proofs.Tokens.{Shortens, mark_no_pointer, seq_shortens, token_shortens}
use Rattle.ll_operands.specs.Operands.{three_part, two_part}
use Rattle.ll_operands.proofs.OperandFacts.{three_is_part, two_is_part}
use Rattle.ll_operands.proofs.PartFacts.{same_word}
use Rattle.ll_operands.proofs.TypeBegins.{BeginsNoType, type_no_word, typed_no_word}
use Rattle.ll_memory_ops.specs.declared.opcodes.MemoryOpcode.TheVariants as opcode
use Rattle.ll_memory_ops.specs.AccessParts.{if_word_part, pointee_part}
use Rattle.ll_memory_ops.specs.MemoryOpcodes.{opcode_word}
use Rattle.ll_memory_ops.specs.MemoryOperations.{behind_opcode, memory_operation, memory_operation_part}
use Rattle.ll_memory_ops.specs.OrderParts.{scoped_order_part}
use Rattle.ll_memory_ops.proofs.AccessesRead.{align_is_part, alignment_is_part, pointee_is_part}
use Rattle.ll_memory_ops.proofs.AddressesRead.{indexes_begin}
use Rattle.ll_memory_ops.proofs.AllocationsRead.{alloca_begins}
use Rattle.ll_memory_ops.proofs.ExactOperations.{exact_behind}
use Rattle.ll_memory_ops.proofs.OpcodesApart.{atomic_no_type, inbounds_no_type, volatile_no_atomic, volatile_no_type}
use Rattle.ll_memory_ops.proofs.OrdersRead.{scoped_is_part}

-- tokens begin with `volatile`, or as what stands behind it does: with no `atomic`
no_atomic : (volatile : Bool) (tokens middle : List Lexeme) → if_word (codes "volatile") volatile tokens middle → EndsNowhere (word (codes "atomic")) middle → EndsNowhere (word (codes "atomic")) tokens
no_atomic true tokens middle v nowhere end w = volatile_no_atomic (same_word (codes "volatile") (codes "atomic") tokens middle end v w)
no_atomic false tokens middle same nowhere end w = subst (EndsNowhere (word (codes "atomic"))) (sym same) nowhere end w

if_word_begins : (text : List ℕ) (there : Bool) (tokens middle : List Lexeme) → if_word text there tokens middle → EndsNowhere (word text) middle → (if_word_part text).begins tokens middle
if_word_begins text true tokens middle d nowhere = inl d
if_word_begins text false tokens middle same nowhere = inr (same, subst (EndsNowhere (word text)) (sym same) nowhere)

scoped_begins : (found : Option (List ℕ)) (o : Order) (tokens middle rest : List Lexeme) → scope found tokens middle → order o middle rest → scoped_order_part.begins tokens rest
unfolding ◌>>◌
scoped_begins found o tokens middle rest d w = scoped_is_part (record { scope = found; order = o }) tokens rest (middle, d, w)

module _ (names : List NameText) where
  -- operands as the grammar has them
  abbrev of_pointee : LlType → TypedValue → Production
  of_pointee t pointer = ty names t >> mark 44 >> typed names pointer

  abbrev two_of : TypedValue → TypedValue → Production
  two_of a b = typed names a >> mark 44 >> typed names b

  pointee_begins : (t : LlType) (pointer : TypedValue) (tokens rest : List Lexeme) → of_pointee t pointer tokens rest → pointee_part.begins tokens rest
  unfolding ◌>>◌
  pointee_begins t pointer tokens rest (a, d, (b, comma, e)) =
      pointee_is_part names (record { ty = t; pointer = pointer }) tokens rest (a, (d, mark_no_pointer 44 a b (λ q. omega arith) comma), (b, comma, e))

  pointee_no_word : (text : List ℕ) → BeginsNoType text → (t : LlType) (pointer : TypedValue) (tokens rest : List Lexeme) → of_pointee t pointer tokens rest → EndsNowhere (word text) tokens
  unfolding ◌>>◌
  pointee_no_word text none t pointer tokens rest (a, d, _) = type_no_word text none names t tokens a d

  two_begins : (a b : TypedValue) (tokens rest : List Lexeme) → two_of a b tokens rest → two_part.begins tokens rest
  two_begins a b tokens rest d = two_is_part names (record { first = a; second = b }) tokens rest d

  two_no_word : (text : List ℕ) → BeginsNoType text → (a b : TypedValue) (tokens rest : List Lexeme) → two_of a b tokens rest → EndsNowhere (word text) tokens
  unfolding ◌>>◌
  two_no_word text none a b tokens rest (m, d, _) = typed_no_word text none names a tokens m d

  three_begins : (a b c : TypedValue) (tokens rest : List Lexeme) → (two_of a b >> mark 44 >> typed names c) tokens rest → three_part.begins tokens rest
  unfolding ◌>>◌
  three_begins a b c tokens rest (o, (m, d, (n, comma, e)), (p, comma', f)) =
      three_is_part names (record { first = a; second = b; third = c }) tokens rest (m, d, (n, comma, (o, e, (p, comma', f))))

  -- a type and a pointer, taken out of what stands before and behind them
  pointee_of : (t : LlType) (pointer : TypedValue) (tokens a b rest : List Lexeme) → ty names t tokens a → mark 44 a b → typed names pointer b rest → of_pointee t pointer tokens rest
  unfolding ◌>>◌
  pointee_of t pointer tokens a b rest d comma e = (a, d, (b, comma, e))

  -- what the grammar derives is of the part
  pub of_part : (o : Op) (tokens rest : List Lexeme) → memory_operation names o tokens rest → memory_operation_part.begins tokens rest
  unfolding ◌>>◌
  of_part (op.Alloca t found bytes) tokens rest (_, ((m, w, (a, d, (b, c, al))), whole)) = (opcode.Alloca, m, w, alloca_begins names t found bytes m a b rest d c al whole)
  of_part (op.Load volatile t pointer bytes) tokens rest (_, ((m, w, (a, v, (b, d, (c, comma, (k, e, al))))), whole)) =
      let p : of_pointee t pointer a k = pointee_of t pointer a b c k d comma e in (
        opcode.Load,
        m,
        w,
        inr (
          no_atomic volatile m a v (pointee_no_word (codes "atomic") atomic_no_type t pointer a k p),
          (
            a,
            if_word_begins (codes "volatile") volatile m a v (pointee_no_word (codes "volatile") volatile_no_type t pointer a k p),
            (k, pointee_begins t pointer a k p, align_is_part bytes k rest al whole),
          ),
        ),
      )
  of_part (op.Store volatile stored pointer bytes) tokens rest (_, ((m, w, (a, v, (k, p, al))), whole)) = (
    opcode.Store,
    m,
    w,
    inr (
      no_atomic volatile m a v (two_no_word (codes "atomic") atomic_no_type stored pointer a k p),
      (
        a,
        if_word_begins (codes "volatile") volatile m a v (two_no_word (codes "volatile") volatile_no_type stored pointer a k p),
        (k, two_begins stored pointer a k p, align_is_part bytes k rest al whole),
      ),
    ),
  )
  of_part (op.AtomicLoad t pointer sc o bytes) tokens rest (_, ((m, w, (a, atomic, (b, d, (c, comma, (k, e, (l, s, (n, ord, al))))))), _)) =
      (opcode.Load, m, w, inl (a, atomic, (k, pointee_begins t pointer a k (pointee_of t pointer a b c k d comma e), (n, scoped_begins sc o k l n s ord, alignment_is_part bytes n rest al))))
  of_part (op.AtomicStore stored pointer sc o bytes) tokens rest (_, ((m, w, (a, atomic, (k, p, (l, s, (n, ord, al))))), _)) =
      (opcode.Store, m, w, inl (a, atomic, (k, two_begins stored pointer a k p, (n, scoped_begins sc o k l n s ord, alignment_is_part bytes n rest al))))
  of_part (op.CompareExchange pointer comparator new sc equal unequal bytes) tokens rest (_, ((m, w, (a, x, (l, s, (n, ord, (k, ord', al))))), whole)) =
      (opcode.CompareExchange, m, w, (a, three_begins pointer comparator new m a x, (k, (n, scoped_begins sc equal a l n s ord, (unequal, ord')), align_is_part bytes k rest al whole)))
  of_part (op.AtomicRmw kind pointer operand sc o bytes) tokens rest (_, ((m, w, (a, k, (b, x, (l, s, (n, ord, al))))), whole)) =
      (opcode.AtomicRmw, m, w, (a, (kind, k), (b, two_begins pointer operand a b x, (n, scoped_begins sc o b l n s ord, align_is_part bytes n rest al whole))))
  of_part (op.Fence sc o) tokens rest (_, ((m, w, (l, s, ord)), _)) = (opcode.Fence, m, w, scoped_begins sc o m l rest s ord)
  of_part (op.GetElementPtr inbounds t pointer []) tokens rest (_, ((m, w, (a, v, (b, d, (c, comma, (k, e, none))))), _)) = absurd none
  of_part (op.GetElementPtr inbounds t pointer (i ∷ is)) tokens rest (_, ((m, w, (a, v, (b, d, (c, comma, (k, e, xs))))), end)) =
      let p : of_pointee t pointer a k = pointee_of t pointer a b c k d comma e in (
        opcode.GetElementPtr,
        m,
        w,
        (
          a,
          if_word_begins (codes "inbounds") inbounds m a v (pointee_no_word (codes "inbounds") inbounds_no_type t pointer a k p),
          (k, pointee_begins t pointer a k p, indexes_begin names i is k rest xs end),
        ),
      )
  of_part other tokens rest (is, _) = absurd is

joined : (p q : Production) (tokens middle rest : List Lexeme) → p tokens middle → q middle rest → (p >> q) tokens rest
unfolding ◌>>◌
joined p q tokens middle rest d e = (middle, d, e)

-- an instruction is shorter than its word and what stands behind it
pub part_shortens : Shortens memory_operation_part.begins
part_shortens tokens rest (key, m, w, d) =
    seq_shortens (word (opcode_word key)) (behind_opcode key).begins (token_shortens _ _) (exact_behind key).ends tokens rest (joined _ _ tokens m rest w d)

pub operation_shortens : (names : List NameText) (o : Op) → Shortens (memory_operation names o)
operation_shortens names o tokens rest d = part_shortens tokens rest (of_part names o tokens rest d)
