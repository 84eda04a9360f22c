-- Alignments, loads and stores as they are read: what exits of readers answer.
use Rattle.std.proofs.Common.{◌≡◌, ℕ, Bool, List, codes, Option, None, Some, refl, sym, subst, inl, inr}
use Rattle.ll_tokens.specs.Tokens.{Lexeme}
use Rattle.ll_tree.specs.declared.name.NameText.{NameText}
use Rattle.ll_tree.specs.declared.op.Op.{Op}
use Rattle.ll_tree.specs.declared.op.Op.TheVariants as op
use Rattle.ll_tree.specs.declared.ty.LlType.{LlType}
use Rattle.ll_tree.specs.declared.value.TypedValue.{TypedValue}
use Rattle.ll_parser.specs.GrammarInsts.{align, alignment}
use Rattle.ll_parser.specs.GrammarTypes.{number}
use Rattle.ll_parser.specs.GrammarValues.{if_word, typed}
use Rattle.ll_parser.specs.NameReading.{ReadsWith}
use Rattle.ll_parser.specs.Productions.{◌>>◌, mark, word}
use Rattle.ll_parser.specs.Reading.{EndsNowhere}
use Rattle.ll_parser.proofs.SpaceFacts.{mark_leaves_one}
use Rattle.ll_parser.proofs.TokenFacts.{first_nowhere, second_nowhere}
use Rattle.ll_types.specs.TypeParts.{ty_here}
use Rattle.ll_types.proofs.TypesRead.{reads_as}
use Rattle.ll_operands.specs.declared.operands.Two.{Two}
use Rattle.ll_operands.specs.Operands.{two}
use Rattle.ll_operands.specs.Parts.{Begins}
use Rattle.ll_operands.specs.Whole.{NoAlign, align_comma}
use Rattle.ll_operands.proofs.Readings.{reads_then}
use Rattle.ll_memory_ops.specs.declared.accesses.Pointee.{Pointee}
use Rattle.ll_memory_ops.specs.declared.opcodes.MemoryOpcode.{MemoryOpcode}
use Rattle.ll_memory_ops.specs.declared.opcodes.MemoryOpcode.TheVariants as opcode
use Rattle.ll_memory_ops.specs.declared.orders.ScopedOrder.{ScopedOrder}
use Rattle.ll_memory_ops.specs.AccessParts.{align_here, align_part, alignment_part, pointee, pointee_part}
use Rattle.ll_memory_ops.specs.MemoryOperations.{behind, behind_atomic}
use Rattle.ll_memory_ops.specs.OrderParts.{scoped_order}
use Rattle.ll_memory_ops.proofs.OperationsRead.{made_of}
use Rattle.ll_memory_ops.proofs.OrdersRead.{some_no_none}

-- alignments
pub align_opens : (tokens inside end : List Lexeme) → mark 44 tokens inside → word (codes "align") inside end → Begins align_comma tokens
unfolding ◌>>◌
align_opens tokens inside end comma w = (end, (inside, comma, w))

pub no_align_behind : (tokens inside : List Lexeme) → mark 44 tokens inside → EndsNowhere (word (codes "align")) inside → EndsNowhere align_comma tokens
no_align_behind tokens inside comma nowhere = second_nowhere (mark 44) (word (codes "align")) tokens inside comma (mark_leaves_one 44 tokens) nowhere

pub no_comma_here : (tokens : List Lexeme) → EndsNowhere (mark 44) tokens → EndsNowhere align_comma tokens
no_comma_here tokens nowhere = first_nowhere (mark 44) (word (codes "align")) tokens nowhere

pub alignment_read : (bytes : ℕ) (tokens a b rest : List Lexeme) → mark 44 tokens a → word (codes "align") a b → number bytes b rest → alignment bytes tokens rest
unfolding ◌>>◌
alignment_read bytes tokens a b rest comma w n = (a, comma, (b, w, n))

pub alignment_is_part : (bytes : ℕ) (tokens rest : List Lexeme) → alignment bytes tokens rest → alignment_part.begins tokens rest
unfolding ◌>>◌
alignment_is_part bytes tokens rest (a, comma, (b, w, n)) = (a, comma, (b, w, (bytes, n)))

pub align_read : (bytes : ℕ) (tokens rest : List Lexeme) → alignment bytes tokens rest → align_here (Some bytes) tokens rest
align_read bytes tokens rest d = (d, λ e. absurd (some_no_none bytes e))

pub no_align : (tokens : List Lexeme) → EndsNowhere align_comma tokens → align_here None tokens tokens
no_align tokens nowhere = (refl, λ e. nowhere)

pub align_is_part : (bytes : Option ℕ) (tokens rest : List Lexeme) → align bytes tokens rest → NoAlign bytes rest → align_part.begins tokens rest
align_is_part None tokens rest same whole = inr (same, subst (EndsNowhere align_comma) (sym same) (whole refl))
align_is_part (Some bytes) tokens rest d whole = inl (alignment_is_part bytes tokens rest d)

-- a type and a pointer
pointee_made : (names : List NameText) (t : LlType) (v : TypedValue) (tokens a b rest : List Lexeme) → mark 44 a b → ty_here names t tokens a → typed names v b rest → pointee names (record { ty = t; pointer = v }) tokens rest
unfolding ◌>>◌
pointee_made names t v tokens a b rest comma d e = (a, d, (b, comma, e))

pub pointee_read : (t : LlType) (v : TypedValue) (old between new : List NameText) (tokens a b rest : List Lexeme) → ReadsWith ty_here old between t tokens a → mark 44 a b → ReadsWith typed between new v b rest → ReadsWith pointee old new (record { ty = t; pointer = v }) tokens rest
pointee_read t v old between new tokens a b rest r comma s =
    reads_then ty_here typed pointee t v (record { ty = t; pointer = v }) old between new tokens a b rest rest (λ names d e. pointee_made names t v tokens a b rest comma d e) r s

pub pointee_is_part : (names : List NameText) (p : Pointee) (tokens rest : List Lexeme) → pointee names p tokens rest → pointee_part.begins tokens rest
unfolding ◌>>◌
pointee_is_part names p tokens rest (a, d, (b, comma, e)) = (a, (names, p.ty, d), (b, comma, (names, p.pointer, e)))

-- loads and stores
module _ (names : List NameText) where
  load_made : (volatile : Bool) (p : Pointee) (bytes : Option ℕ) (tokens a b rest : List Lexeme) → if_word (codes "volatile") volatile tokens a → align_here bytes b rest → pointee names p a b → behind opcode.Load names (op.Load volatile p.ty p.pointer bytes) tokens rest
  unfolding ◌>>◌
  load_made volatile p bytes tokens a b rest v al (x, d, (y, comma, e)) = λ before w. (tt, ((tokens, w, (a, v, (x, d.0, (y, comma, (b, e, al.0))))), al.1))

  atomic_load_made : (p : Pointee) (o : ScopedOrder) (bytes : ℕ) (tokens a b rest : List Lexeme) → scoped_order o a b → alignment bytes b rest → pointee names p tokens a → behind_atomic opcode.Load names (op.AtomicLoad p.ty p.pointer o.scope o.order bytes) tokens rest
  unfolding ◌>>◌
  atomic_load_made p o bytes tokens a b rest (c, sc, ord) al (x, d, (y, comma, e)) =
      λ middle atomic before w. (tt, ((middle, w, (tokens, atomic, (x, d.0, (y, comma, (a, e, (c, sc, (b, ord, al))))))), tt))

  store_made : (volatile : Bool) (o : Two) (bytes : Option ℕ) (tokens a b rest : List Lexeme) → if_word (codes "volatile") volatile tokens a → align_here bytes b rest → two names o a b → behind opcode.Store names (op.Store volatile o.first o.second bytes) tokens rest
  unfolding ◌>>◌
  store_made volatile o bytes tokens a b rest v al d = λ before w. (tt, ((tokens, w, (a, v, (b, d, al.0))), al.1))

  atomic_store_made : (x : Two) (o : ScopedOrder) (bytes : ℕ) (tokens a b rest : List Lexeme) → scoped_order o a b → alignment bytes b rest → two names x tokens a → behind_atomic opcode.Store names (op.AtomicStore x.first x.second o.scope o.order bytes) tokens rest
  unfolding ◌>>◌
  atomic_store_made x o bytes tokens a b rest (c, sc, ord) al d = λ middle atomic before w. (tt, ((middle, w, (tokens, atomic, (a, d, (c, sc, (b, ord, al))))), tt))

module _ (old new : List NameText) (made : Op) (tokens a b rest : List Lexeme) where
  pub load_read : (volatile : Bool) (p : Pointee) (bytes : Option ℕ) → made ≡ op.Load volatile p.ty p.pointer bytes → if_word (codes "volatile") volatile tokens a → ReadsWith pointee old new p a b → align_here bytes b rest → ReadsWith (behind opcode.Load) old new made tokens rest
  load_read volatile p bytes is v r al =
      made_of pointee (behind opcode.Load) p (op.Load volatile p.ty p.pointer bytes) made old new tokens a b rest is (λ names d. load_made names volatile p bytes tokens a b rest v al d) r

  pub atomic_load_read : (p : Pointee) (o : ScopedOrder) (bytes : ℕ) → made ≡ op.AtomicLoad p.ty p.pointer o.scope o.order bytes → ReadsWith pointee old new p tokens a → scoped_order o a b → alignment bytes b rest → ReadsWith (behind_atomic opcode.Load) old new made tokens rest
  atomic_load_read p o bytes is r so al =
      made_of pointee (behind_atomic opcode.Load) p (op.AtomicLoad p.ty p.pointer o.scope o.order bytes) made old new tokens tokens a rest is (λ names d. atomic_load_made names p o bytes tokens a b rest so al d) r

  pub store_read : (volatile : Bool) (o : Two) (bytes : Option ℕ) → made ≡ op.Store volatile o.first o.second bytes → if_word (codes "volatile") volatile tokens a → ReadsWith two old new o a b → align_here bytes b rest → ReadsWith (behind opcode.Store) old new made tokens rest
  store_read volatile o bytes is v r al =
      made_of two (behind opcode.Store) o (op.Store volatile o.first o.second bytes) made old new tokens a b rest is (λ names d. store_made names volatile o bytes tokens a b rest v al d) r

  pub atomic_store_read : (x : Two) (o : ScopedOrder) (bytes : ℕ) → made ≡ op.AtomicStore x.first x.second o.scope o.order bytes → ReadsWith two old new x tokens a → scoped_order o a b → alignment bytes b rest → ReadsWith (behind_atomic opcode.Store) old new made tokens rest
  atomic_store_read x o bytes is r so al =
      made_of two (behind_atomic opcode.Store) x (op.AtomicStore x.first x.second o.scope o.order bytes) made old new tokens tokens a rest is (λ names d. atomic_store_made names x o bytes tokens a b rest so al d) r

-- what stands behind `atomic` stands behind the instruction's word
pub atomic_behind : (key : MemoryOpcode) (old new : List NameText) (o : Op) (tokens middle rest : List Lexeme) → word (codes "atomic") tokens middle → ReadsWith (behind_atomic key) old new o middle rest → ReadsWith (behind key) old new o tokens rest
atomic_behind key old new o tokens middle rest w r = reads_as (behind_atomic key) (behind key) o o old new tokens middle rest rest (λ names d. d tokens w) r
