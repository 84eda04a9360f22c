-- No two instructions begin with one word, and which words begin no type and no scope.
use Rattle.std.proofs.Common.{◌≡◌, ℕ, IsTrue, List, [], ◌∷◌, Option, None, Some, if◌then◌else◌, codes, drop, get_or, length, refl, sym, subst, ap, ◌∙◌, unwrap_or, arith}
use Rattle.std.specs.Char.{is_ascii_digit}
use Rattle.std.specs.List.{list_all}
use Rattle.std.specs.Str.{bytes_eq}
use Rattle.ll_tokens.specs.Tokens.{Lexeme}
use Rattle.ll_tree.specs.declared.op.Order.{Order}
use Rattle.ll_tree.specs.declared.op.Order.TheVariants.{Monotonic, Acquire, Release, AcqRel, SeqCst}
use Rattle.ll_parser.specs.GrammarInsts.{order, order_word}
use Rattle.ll_parser.specs.Productions.{word}
use Rattle.ll_parser.specs.Reading.{EndsNowhere}
use Rattle.ll_operands.proofs.PartFacts.{same_word}
use Rattle.ll_operands.proofs.TypeBegins.{BeginsNoType, begins_no_type}
use Rattle.ll_memory_ops.specs.declared.opcodes.MemoryOpcode.{MemoryOpcode}
use Rattle.ll_memory_ops.specs.declared.opcodes.MemoryOpcode.TheVariants as opcode
use Rattle.ll_memory_ops.specs.MemoryOpcodes.{opcode_word}

-- the first of some instructions that begins with this word
abbrev first_of : List MemoryOpcode → List ℕ → Option MemoryOpcode
first_of [] word = None
first_of (key ∷ keys) word = if bytes_eq word (opcode_word key) then Some key else first_of keys word

abbrev opcodes : List MemoryOpcode
opcodes =
    opcode.Alloca ∷ opcode.Load ∷ opcode.Store ∷ opcode.Fence ∷ opcode.CompareExchange ∷ opcode.AtomicRmw ∷ opcode.GetElementPtr ∷ []

found : (key : MemoryOpcode) → first_of opcodes (opcode_word key) ≡ Some key
found opcode.Alloca = refl
found opcode.Load = refl
found opcode.Store = refl
found opcode.Fence = refl
found opcode.CompareExchange = refl
found opcode.AtomicRmw = refl
found opcode.GetElementPtr = refl

pub opcodes_apart : (j k : MemoryOpcode) → opcode_word j ≡ opcode_word k → j ≡ k
opcodes_apart j k same = ap (λ o. unwrap_or o j) (sym (found j) ∙ ap (first_of opcodes) same ∙ found k)

-- words of instructions that begin no type
pub atomic_no_type : BeginsNoType (codes "atomic")
atomic_no_type = begins_no_type (codes "atomic") (λ e. omega arith) (λ e. omega arith) (λ e. omega arith) (λ e. omega arith) (λ e. omega arith)

pub align_no_type : BeginsNoType (codes "align")
align_no_type = begins_no_type (codes "align") (λ e. omega arith) (λ e. omega arith) (λ e. omega arith) (λ e. omega arith) (λ e. omega arith)

lengths_apart : (text other : List ℕ) → (length text ≡ length other → ⊥) → text ≡ other → ⊥
lengths_apart text other differ e = differ (ap length e)

firsts_apart : (text other : List ℕ) → (get_or text 0 0 ≡ get_or other 0 0 → ⊥) → text ≡ other → ⊥
firsts_apart text other differ e = differ (ap (λ (t : List ℕ). get_or t 0 0) e)

pub volatile_no_type : BeginsNoType (codes "volatile")
volatile_no_type = record {
  no_void = lengths_apart (codes "void") (codes "volatile") (λ e. omega arith);
  no_int = λ digits e all. firsts_apart (codes "volatile") (105 ∷ digits) (λ n. omega arith) e;
  no_half = firsts_apart (codes "half") (codes "volatile") (λ e. omega arith);
  no_float = firsts_apart (codes "float") (codes "volatile") (λ e. omega arith);
  no_double = firsts_apart (codes "double") (codes "volatile") (λ e. omega arith);
}

-- the letters behind the `i` of `inbounds` are no digits
no_digits : (digits : List ℕ) → codes "inbounds" ≡ 105 ∷ digits → IsTrue (list_all is_ascii_digit digits) → ⊥
no_digits digits e all = let bad : IsTrue (list_all is_ascii_digit (codes "nbounds")) = subst (λ ds. IsTrue (list_all is_ascii_digit ds)) (sym (ap (drop 1) e)) all in cc

pub inbounds_no_type : BeginsNoType (codes "inbounds")
inbounds_no_type = record {
  no_void = firsts_apart (codes "void") (codes "inbounds") (λ e. omega arith);
  no_int = no_digits;
  no_half = firsts_apart (codes "half") (codes "inbounds") (λ e. omega arith);
  no_float = firsts_apart (codes "float") (codes "inbounds") (λ e. omega arith);
  no_double = firsts_apart (codes "double") (codes "inbounds") (λ e. omega arith);
}

pub volatile_no_atomic : codes "volatile" ≡ codes "atomic" → ⊥
volatile_no_atomic = lengths_apart (codes "volatile") (codes "atomic") (λ e. omega arith)

-- no order begins with `syncscope`
order_apart : (o : Order) → order_word o ≡ codes "syncscope" → ⊥
order_apart Monotonic = firsts_apart (codes "monotonic") (codes "syncscope") (λ e. omega arith)
order_apart Acquire = firsts_apart (codes "acquire") (codes "syncscope") (λ e. omega arith)
order_apart Release = firsts_apart (codes "release") (codes "syncscope") (λ e. omega arith)
order_apart AcqRel = firsts_apart (codes "acq_rel") (codes "syncscope") (λ e. omega arith)
order_apart SeqCst = lengths_apart (codes "seq_cst") (codes "syncscope") (λ e. omega arith)

pub order_no_scope : (o : Order) (tokens rest : List Lexeme) → order o tokens rest → EndsNowhere (word (codes "syncscope")) tokens
order_no_scope o tokens rest d end w = order_apart o (same_word (order_word o) (codes "syncscope") tokens rest end d w)
