-- Allocations as they are read: what exits of readers answer.
use Rattle.std.proofs.Common.{◌≡◌, ℕ, ℤ, List, codes, length, Option, None, Some, refl, sym, subst, inl, inr, arith}
use Rattle.std.proofs.lemmas.List.{length-map}
use Rattle.ll_tokens.specs.declared.kinds.Token.{Token}
use Rattle.ll_tokens.specs.declared.kinds.TokenKind.TheVariants.{Int as IntToken, Punct, Word}
use Rattle.ll_tokens.specs.Tokens.{Lexeme, lexeme_of, lexemes_of}
use Rattle.ll_tree.specs.declared.name.NameText.{NameText}
use Rattle.ll_tree.specs.declared.op.AllocaCount.{AllocaCount}
use Rattle.ll_tree.specs.declared.op.Op.{Op}
use Rattle.ll_tree.specs.declared.op.Op.TheVariants as op
use Rattle.ll_tree.specs.declared.ty.LlType.{LlType}
use Rattle.ll_tree.specs.Types.{int_width}
use Rattle.ll_parser.specs.declared.refusal.Refusal.{Refusal}
use Rattle.ll_parser.specs.GrammarInsts.{align, count}
use Rattle.ll_parser.specs.GrammarTypes.{number, ty}
use Rattle.ll_parser.specs.GrammarValues.{integer}
use Rattle.ll_parser.specs.NameReading.{ReadsWith}
use Rattle.ll_parser.specs.Pointers.{NoPointer}
use Rattle.ll_parser.specs.Productions.{◌>>◌, if_there, mark, word}
use Rattle.ll_parser.specs.Reading.{DerivesNone, EndsNowhere, number_rule}
use Rattle.ll_parser.proofs.TableFacts.{extends_same}
use Rattle.ll_types.specs.TypeParts.{ty_here}
use Rattle.ll_types.proofs.Tokens.{kinds_apart, mark_no_pointer}
use Rattle.ll_types.proofs.TypesRead.{reads_as}
use Rattle.ll_operands.specs.Parts.{operand_comma}
use Rattle.ll_operands.specs.Whole.{IsWhole, NoAlign}
use Rattle.ll_operands.proofs.Readings.{reads_then}
use Rattle.ll_operands.proofs.TypeBegins.{type_no_word}
use Rattle.ll_memory_ops.specs.declared.allocations.Extent.{Extent}
use Rattle.ll_memory_ops.specs.declared.opcodes.MemoryOpcode.TheVariants as opcode
use Rattle.ll_memory_ops.specs.AccessParts.{align_here}
use Rattle.ll_memory_ops.specs.AllocationParts.{alloca_part, count_here, count_part, ends_extent, extent, extent_inside, extent_part, inside_of, integer_part}
use Rattle.ll_memory_ops.specs.MemoryOperations.{behind}
use Rattle.ll_memory_ops.proofs.AccessesRead.{align_is_part}
use Rattle.ll_memory_ops.proofs.OpcodesApart.{align_no_type}
use Rattle.ll_memory_ops.proofs.OrdersRead.{some_no_none}

-- a count
count_made : (names : List NameText) (t : LlType) (n : ℤ) (tokens middle rest : List Lexeme) → integer t n middle rest → ty_here names t tokens middle → count_here names (record { ty = t; number = n }) tokens rest
unfolding ◌>>◌
count_made names t n tokens middle rest i d = (middle, d, i)

pub count_read : (t : LlType) (n kept : ℤ) (old new : List NameText) (tokens middle rest : List Lexeme) → kept ≡ n → ReadsWith ty_here old new t tokens middle → integer t n middle rest → ReadsWith count_here old new (record { ty = t; number = kept }) tokens rest
count_read t n kept old new tokens middle rest is r i =
    subst (λ k. ReadsWith count_here old new (record { ty = t; number = k }) tokens rest) (sym is)
    (reads_as ty_here count_here t (record { ty = t; number = n }) old new tokens tokens middle rest (λ names d. count_made names t n tokens middle rest i d) r)

pub integer_refused : (t : LlType) (tokens : List Token) (refusal : Refusal) → DerivesNone (integer t) (lexemes_of tokens) → refusal ≡ record { rule = number_rule (lexemes_of tokens); left = length tokens } → (integer_part (int_width t)).stops (lexemes_of tokens) refusal
integer_refused t tokens refusal none place =
    (none, subst (λ (n : ℕ). refusal ≡ record { rule = number_rule (lexemes_of tokens); left = n }) (sym (length-map tokens lexeme_of)) place)

pub count_is_part : (names : List NameText) (c : AllocaCount) (tokens rest : List Lexeme) → count_here names c tokens rest → count_part.begins tokens rest
unfolding ◌>>◌
count_is_part names c tokens rest (m, d, i) = (names, c.ty, m, d, (c.number, i))

-- an alignment alone, and a count with what follows it
alone_made : (names : List NameText) (bytes : ℕ) (tokens middle rest : List Lexeme) → word (codes "align") tokens middle → number bytes middle rest → inside_of None (Some bytes) names tokens rest
unfolding ◌>>◌
alone_made names bytes tokens middle rest w n = (middle, w, n)

pub alone_read : (bytes : ℕ) (names : List NameText) (tokens middle rest : List Lexeme) → word (codes "align") tokens middle → number bytes middle rest → ReadsWith extent_inside names names (record { count = None; align = Some bytes }) tokens rest
alone_read bytes names tokens middle rest w n = record { extends = extends_same names; reads = λ longer e. alone_made longer bytes tokens middle rest w n }

counted_made : (names : List NameText) (c : AllocaCount) (bytes : Option ℕ) (tokens middle rest : List Lexeme) → align_here bytes middle rest → count_here names c tokens middle → inside_of (Some c) bytes names tokens rest
unfolding ◌>>◌
counted_made names c bytes tokens middle rest al d = (middle, d, al)

pub counted_read : (c : AllocaCount) (bytes : Option ℕ) (old new : List NameText) (tokens middle rest : List Lexeme) → ReadsWith count_here old new c tokens middle → align_here bytes middle rest → ReadsWith extent_inside old new (record { count = Some c; align = bytes }) tokens rest
counted_read c bytes old new tokens middle rest r al =
    reads_as count_here extent_inside c (record { count = Some c; align = bytes }) old new tokens tokens middle rest (λ names d. counted_made names c bytes tokens middle rest al d) r

-- both behind their comma
inside_made : (names : List NameText) (found : Option AllocaCount) (bytes : Option ℕ) (tokens inside rest : List Lexeme) → mark 44 tokens inside → inside_of found bytes names inside rest → (if_there (count names) found >> align bytes) tokens rest × ends_extent found bytes rest
unfolding ◌>>◌
inside_made names None None tokens inside rest comma d = absurd d
inside_made names None (Some bytes) tokens inside rest comma d = ((tokens, refl, (inside, comma, d)), λ e. absurd (some_no_none bytes e))
inside_made names (Some c) None tokens inside rest comma (m, (k, d, i), al) = ((m, (inside, comma, (k, d.0, i)), al.0), al.1)
inside_made names (Some c) (Some bytes) tokens inside rest comma (m, (k, d, i), al) = ((m, (inside, comma, (k, d.0, i)), al.0), al.1)

pub extent_read : (x : Extent) (old new : List NameText) (tokens inside rest : List Lexeme) → operand_comma tokens inside → ReadsWith extent_inside old new x inside rest → ReadsWith extent old new x tokens rest
extent_read x old new tokens inside rest comma r =
    reads_as extent_inside extent x x old new tokens inside rest rest (λ names d. inside_made names x.count x.align tokens inside rest comma.0 d) r

nothing_made : (names : List NameText) (tokens : List Lexeme) → EndsNowhere operand_comma tokens → extent names (record { count = None; align = None }) tokens tokens
unfolding ◌>>◌
nothing_made names tokens nowhere = ((tokens, refl, refl), nowhere)

pub nothing_read : (names : List NameText) (tokens : List Lexeme) → EndsNowhere operand_comma tokens → ReadsWith extent names names (record { count = None; align = None }) tokens tokens
nothing_read names tokens nowhere = record { extends = extends_same names; reads = λ longer e. nothing_made longer tokens nowhere }

-- an allocation
alloca_made : (names : List NameText) (t : LlType) (found : Option AllocaCount) (bytes : Option ℕ) (tokens middle rest : List Lexeme) → ty_here names t tokens middle → (if_there (count names) found >> align bytes) middle rest → ends_extent found bytes rest → behind opcode.Alloca names (op.Alloca t found bytes) tokens rest
unfolding ◌>>◌
alloca_made names t None None tokens middle rest d (k, same, same') ends =
    λ before w. (tt, ((tokens, w, (middle, d.0, (k, same, same'))), (subst NoPointer same' (subst NoPointer same d.1), ends)))
alloca_made names t None (Some bytes) tokens middle rest d x ends = λ before w. (tt, ((tokens, w, (middle, d.0, x)), ends))
alloca_made names t (Some c) None tokens middle rest d x ends = λ before w. (tt, ((tokens, w, (middle, d.0, x)), ends))
alloca_made names t (Some c) (Some bytes) tokens middle rest d x ends = λ before w. (tt, ((tokens, w, (middle, d.0, x)), ends))

pub alloca_read : (t : LlType) (x : Extent) (made : Op) (old between new : List NameText) (tokens middle rest : List Lexeme) → made ≡ op.Alloca t x.count x.align → ReadsWith ty_here old between t tokens middle → ReadsWith extent between new x middle rest → ReadsWith (behind opcode.Alloca) old new made tokens rest
alloca_read t x made old between new tokens middle rest is r s =
    subst (λ o. ReadsWith (behind opcode.Alloca) old new o tokens rest) (sym is)
    (reads_then ty_here extent (behind opcode.Alloca) t x (op.Alloca t x.count x.align) old between new tokens middle middle rest rest (λ names d e. alloca_made names t x.count x.align tokens middle rest d e.0 e.1) r s)

-- what the grammar derives is of the part
count_no_pointer : (t : LlType) (n : ℤ) (tokens rest : List Lexeme) → integer t n tokens rest → NoPointer tokens
count_no_pointer t n tokens rest i = record {
  no_space = λ b w. kinds_apart IntToken Word _ _ tokens rest b (λ e. cc) i w;
  no_star = λ b m. kinds_apart IntToken Punct _ _ tokens rest b (λ e. cc) i m;
}

module _ (names : List NameText) where
  counted_begins : (c : AllocaCount) (bytes : Option ℕ) (tokens middle rest : List Lexeme) → count names c tokens middle → align bytes middle rest → NoAlign bytes rest → extent_part.begins tokens rest
  unfolding ◌>>◌
  counted_begins c bytes tokens middle rest (a, comma, (b, d, i)) al whole =
      inl (a, comma, inr (type_no_word (codes "align") align_no_type names c.ty a b d, (middle, (names, c.ty, b, (d, count_no_pointer c.ty c.number b middle i), (c.number, i)), align_is_part bytes middle rest al whole)))

  alone_begins : (bytes : ℕ) (tokens rest : List Lexeme) → align (Some bytes) tokens rest → extent_part.begins tokens rest
  unfolding ◌>>◌
  alone_begins bytes tokens rest (a, comma, (b, w, n)) = inl (a, comma, inl (b, w, (bytes, n)))

  alone_no_pointer : (bytes : ℕ) (tokens rest : List Lexeme) → align (Some bytes) tokens rest → NoPointer tokens
  unfolding ◌>>◌
  alone_no_pointer bytes tokens rest (a, comma, _) = mark_no_pointer 44 tokens a (λ e. omega arith) comma

  counted_no_pointer : (c : AllocaCount) (tokens rest : List Lexeme) → count names c tokens rest → NoPointer tokens
  unfolding ◌>>◌
  counted_no_pointer c tokens rest (a, comma, _) = mark_no_pointer 44 tokens a (λ e. omega arith) comma

  pub alloca_begins : (t : LlType) (found : Option AllocaCount) (bytes : Option ℕ) (tokens a b rest : List Lexeme) → ty names t tokens a → if_there (count names) found a b → align bytes b rest → IsWhole (op.Alloca t found bytes) rest → alloca_part.begins tokens rest
  unfolding ◌>>◌
  alloca_begins t None None tokens a b rest d same same' whole =
      (a, (names, t, (d, subst NoPointer (sym same) (subst NoPointer (sym same') whole.0))), inr (subst (λ ls. a ≡ ls) same' same, subst (EndsNowhere operand_comma) (sym same) (subst (EndsNowhere operand_comma) (sym same') whole.1)))
  alloca_begins t None (Some bytes) tokens a b rest d same al whole =
      let here : align (Some bytes) a rest = subst (λ ls. align (Some bytes) ls rest) (sym same) al in
      (a, (names, t, (d, alone_no_pointer bytes a rest here)), alone_begins bytes a rest here)
  alloca_begins t (Some c) None tokens a b rest d cs al whole = (a, (names, t, (d, counted_no_pointer c a b cs)), counted_begins c None a b rest cs al whole)
  alloca_begins t (Some c) (Some bytes) tokens a b rest d cs al whole = (a, (names, t, (d, counted_no_pointer c a b cs)), counted_begins c (Some bytes) a b rest cs al whole)
