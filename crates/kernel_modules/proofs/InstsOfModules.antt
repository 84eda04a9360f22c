-- Instructions of kernels are those of modules, at the places of their first tokens.
use Rattle.std.proofs.Common.{◌≡◌, ℕ, Bool, false, List, [], ◌∷◌, None, refl, sym, subst, inl}
use Rattle.std.specs.Prelude.{codes}
use Rattle.ll_tokens.specs.declared.kinds.TokenKind.TheVariants.{Word}
use Rattle.ll_tokens.specs.Tokens.{Lexeme}
use Rattle.ll_tree.specs.declared.inst.Inst.{Inst}
use Rattle.ll_tree.specs.declared.name.Name.{Name}
use Rattle.ll_tree.specs.declared.name.NameText.{NameText}
use Rattle.ll_tree.specs.declared.op.Op.TheVariants as op
use Rattle.ll_parser.specs.Productions.{◌>>◌, each, mark}
use Rattle.ll_parser.specs.GrammarFunctions.{begins_at, given, inst as text_inst, insts, is_terminator, next_after}
use Rattle.ll_parser.specs.GrammarInsts.{operation as text_operation}
use Rattle.ll_parser.specs.GrammarValues.{typed}
use Rattle.kernel_tree.specs.declared.kernel.KernelInst.{KernelInst}
use Rattle.kernel_tree.specs.declared.kernel.KernelInst.TheVariants.{Add, Load, Store}
use Rattle.kernel_tree.specs.declared.kernel.ValueType.TheVariants.{Pointer}
use Rattle.kernel_tree.specs.Modules.{operation, result_name, value_of}
use Rattle.kernel_text.specs.declared.name_sorts.NameSort.TheVariants as sort
use Rattle.kernel_text.specs.declared.phrases.Phrase.TheVariants as phrase
use Rattle.kernel_text.specs.Grammar.{align, inst}
use Rattle.kernel_text.specs.NameSorts.{written_name}
use Rattle.kernel_text.specs.Phrases.{Wanted, exactly, pieces_of, pointer_operand, words_of}
use Rattle.kernel_modules.proofs.TypesOfModules.{aligned, int_ty, local_name, pointer_ty, single}

-- the instruction at a place
abbrev inst_at : ℕ → KernelInst → Inst
inst_at byte i = record { byte = byte; defines = result_name i; op = operation i }

-- the place of the first token
begins_with_store : (names : List NameText) (tokens rest : List Lexeme) → words_of phrase.StoreWords tokens rest → (byte : ℕ) × begins_at names byte tokens
unfolding ◌>>◌ pieces_of
begins_with_store names tokens rest (m, (l, is, kind, text), more) = (l.byte, subst (begins_at names l.byte) (sym is) refl)

begins_with_name : (names : List NameText) (name : Name) (tokens rest : List Lexeme) → written_name sort.Value names name tokens rest → begins_at names name.byte tokens
begins_with_name names name tokens rest (l, is, kind, (allowed, byte, spells)) = subst (begins_at names name.byte) (sym is) (sym byte)

abbrev end_at : ℕ → Inst
end_at byte = record { byte = byte; defines = None; op = op.ReturnVoid }

-- a comma and a pointer with its type
pointer_behind : (names : List NameText) (pointer : Name) (tokens middle rest : List Lexeme) → exactly pointer_operand tokens middle → written_name sort.Value names pointer middle rest → (mark 44 >> typed names (value_of Pointer pointer)) tokens rest
unfolding ◌>>◌
pointer_behind names pointer tokens middle rest (a, comma, (b, word, suffix)) name =
    (a, comma, (middle, pointer_ty names a b middle word suffix, local_name names pointer middle rest name))

-- what stands behind the names that instructions define
add_behind : (names : List NameText) (sum left right : Name) (tokens a b c rest : List Lexeme) → words_of phrase.AddWords tokens a → written_name sort.Value names left a b → words_of phrase.Comma b c → written_name sort.Value names right c rest → (mark 61 >> text_operation names (operation (Add sum left right))) tokens rest
unfolding ◌>>◌ pieces_of
add_behind names sum left right tokens a b c rest (p, equals, (q, word, int)) first comma second =
    (p, equals, (q, word, (q, refl, (a, int_ty names q a (single _ q a int), (b, local_name names left a b first, (c, single _ b c comma, local_name names right c rest second))))))

load_behind : (names : List NameText) (loaded pointer : Name) (is_aligned : Bool) (tokens a b rest : List Lexeme) → words_of phrase.LoadWords tokens a → written_name sort.Value names pointer a b → align is_aligned b rest → (mark 61 >> text_operation names (operation (Load loaded pointer is_aligned))) tokens rest
unfolding ◌>>◌ pieces_of
load_behind names loaded pointer is_aligned tokens a b rest (p, equals, (q, word, (r, int, operand))) name alignment =
    let (s, comma, at) = pointer_behind names pointer r a b operand name in
    (p, equals, (q, word, (q, refl, (r, int_ty names q r int, (s, comma, (b, at, aligned is_aligned b rest alignment))))))

store_behind : (names : List NameText) (value pointer : Name) (is_aligned : Bool) (tokens a b c d rest : List Lexeme) → words_of phrase.StoreWords tokens a → written_name sort.Value names value a b → words_of phrase.PointerOperand b c → written_name sort.Value names pointer c d → align is_aligned d rest → text_operation names (operation (Store value pointer is_aligned)) tokens rest
unfolding ◌>>◌ pieces_of
store_behind names value pointer is_aligned tokens a b c d rest (p, word, int) stored operand name alignment =
    let (s, comma, at) = pointer_behind names pointer b c d operand name in
    (p, word, (p, refl, (d, (b, (a, int_ty names p a (single _ p a int), local_name names value a b stored), (s, comma, at)), aligned is_aligned d rest alignment)))

-- an instruction of a module at some place
record IsInst (names : List NameText) (next : ℕ) (i : KernelInst) (tokens rest : List Lexeme) : Type 0 where
  byte : ℕ
  reads : text_inst names next (inst_at byte i) tokens rest

inst_reads : (names : List NameText) (next : ℕ) (i : KernelInst) (tokens rest : List Lexeme) → inst names i tokens rest → IsInst names next i tokens rest
unfolding ◌>>◌
inst_reads names next (Add sum left right) tokens rest (a, name, (b, words, (c, first, (d, comma, second)))) =
    let (e, equals, behind) = add_behind names sum left right a b c d rest words first comma second in
    record {
      byte = sum.byte;
      reads = (begins_with_name names sum tokens a name, (e, inl (refl, (a, local_name names sum tokens a name, equals)), (rest, behind, ([], refl))));
    }
inst_reads names next (Load loaded pointer is_aligned) tokens rest (a, name, (b, words, (c, address, alignment))) =
    let (e, equals, behind) = load_behind names loaded pointer is_aligned a b c rest words address alignment in
    record {
      byte = loaded.byte;
      reads = (begins_with_name names loaded tokens a name, (e, inl (refl, (a, local_name names loaded tokens a name, equals)), (rest, behind, ([], refl))));
    }
inst_reads names next (Store value pointer is_aligned) tokens rest (a, words, (b, stored, (c, operand, (d, address, alignment)))) =
    let (byte, begins) = begins_with_store names tokens a words in
    record {
      byte = byte;
      reads = (begins, (tokens, (refl, refl), (rest, store_behind names value pointer is_aligned tokens a b c d rest words stored operand address alignment, ([], refl))));
    }

-- none of them ends its block
goes_on : (byte : ℕ) (i : KernelInst) → is_terminator (inst_at byte i).op ≡ false
goes_on byte (Add sum left right) = refl
goes_on byte (Load loaded pointer is_aligned) = refl
goes_on byte (Store value pointer is_aligned) = refl

-- instructions up to the end of their block
pub record AreInsts (names : List NameText) (next : ℕ) (tokens rest : List Lexeme) : Type 0 where
  pub first : Inst
  pub more : List Inst
  pub reads : insts names next (first ∷ more) tokens rest

-- what ends a block
abbrev pub end_words : List Wanted
end_words = (Word, codes "ret") ∷ (Word, codes "void") ∷ []

-- `ret void`
end_reads : (names : List NameText) (next : ℕ) (tokens rest : List Lexeme) → exactly end_words tokens rest → AreInsts names next tokens rest
unfolding ◌>>◌
end_reads names next tokens rest (a, (l, is, kind, text), void) = record {
  first = end_at l.byte;
  more = [];
  reads = (refl, (subst (begins_at names l.byte) (sym is) refl, (tokens, (refl, refl), (rest, (a, (l, is, kind, text), single _ a rest void), ([], refl)))));
}

pub insts_read : (names : List NameText) (next : ℕ) (is : List KernelInst) (tokens middle rest : List Lexeme) → each (inst names) is tokens middle → exactly end_words middle rest → AreInsts names next tokens rest
unfolding ◌>>◌
insts_read names next [] tokens middle rest same end = end_reads names next tokens rest (subst (λ ts. exactly end_words ts rest) (sym same) end)
insts_read names next (i ∷ is) tokens middle rest (m, one, more) end =
    let here = inst_reads names next i tokens m one in
    let i' = inst_at here.byte i in
    let behind = insts_read names (next_after names (given names i'.defines) next) is m middle rest more end in
    record {
      first = i';
      more = behind.first ∷ behind.more;
      reads = (goes_on here.byte i, (m, here.reads, behind.reads));
    }
