-- What the grammar derives of the bodies of functions is of the parts that are read.
use Rattle.std.proofs.Common.{◌≡◌, ℕ, suc, Bool, true, false, true≢false, IsTrue, List, [], ◌∷◌, Option, None, Some, refl, sym, subst, inl, inr, ◌⊎◌, arith}
use Rattle.inst_walk.specs.declared.body.Block.{Block}
use Rattle.ll_tokens.specs.declared.kinds.TokenKind.{TokenKind}
use Rattle.ll_tokens.specs.declared.kinds.TokenKind.TheVariants.{Label, Local as LocalToken, MdName, Punct, Word}
use Rattle.ll_tokens.specs.Tokens.{Lexeme}
use Rattle.ll_tree.specs.declared.inst.Inst.{Inst}
use Rattle.ll_tree.specs.declared.module.NodeRef.{NodeRef}
use Rattle.ll_tree.specs.declared.name.Name.{Name}
use Rattle.ll_tree.specs.declared.name.NameText.{NameText}
use Rattle.ll_tree.specs.declared.op.Op.{Op}
use Rattle.ll_tree.specs.declared.op.Op.TheVariants as op
use Rattle.ll_parser.specs.GrammarAttributes.{any_attachments}
use Rattle.ll_parser.specs.GrammarFunctions.{block_names, blocks, given, inst, insts, is_terminator, label, may_have_name, naming, next_after}
use Rattle.ll_parser.specs.GrammarInsts.{operation}
use Rattle.ll_parser.specs.NameReading.{any_of}
use Rattle.ll_parser.specs.Productions.{◌>>◌, each, mark, token}
use Rattle.ll_parser.specs.Reading.{EndsNowhere}
use Rattle.ll_parser.proofs.TokenFacts.{token_leaves_one}
use Rattle.ll_types.proofs.Tokens.{kinds_apart, mark_no_pointer, marks_apart}
use Rattle.ll_attributes.specs.Attachments.{behind_comma, skipped_attachments}
use Rattle.ll_attributes.specs.FunctionAttributes.{NoFunctionAttribute}
use Rattle.ll_attributes.proofs.FunctionFacts.{no_function_attribute_at}
use Rattle.ll_calls.specs.Calls.{EndsCall}
use Rattle.ll_operands.specs.Parts.{Begins}
use Rattle.ll_operands.specs.Whole.{EndsOperation}
use Rattle.ll_bodies.specs.BodyWords.{EndsInst, terminator_word}
use Rattle.ll_bodies.proofs.BodyEnds.{close_ends_inst, label_ends_inst, local_ends_inst, no_attribute_here, word_ends_inst}
use Rattle.ll_bodies.proofs.OperationWords.{ends_block, first_word, goes_on, may_be_named}
use Rattle.ll_insts.specs.Blocks.{blocks_here}
use Rattle.ll_insts.specs.declared.blocks.Blocks.{Blocks}
use Rattle.ll_insts.specs.InstParts.{block_part, blocks_part, inst_part, insts_part, more_blocks_part}
use Rattle.ll_insts.specs.Operations.{whole_operation}
use Rattle.ll_insts.proofs.OperationFacts.{operation_is_part, operation_right, operation_whole}

is_true : (b : Bool) → IsTrue b → b ≡ true
is_true b holding = grind arith

-- what may stand behind what an instruction does
record EndsBoth (tokens : List Lexeme) : Type 0 where
  pub operation : EndsOperation tokens
  pub call : EndsCall tokens

both : (tokens : List Lexeme) → EndsInst tokens → EndsBoth tokens
both tokens e = record { operation = e.operation; call = record { no_attribute = e.no_attribute; no_value = e.no_value } }

-- an attachment's comma, which an operand's isn't
at_attachment : (a : List ℕ × NodeRef) (tokens rest : List Lexeme) → behind_comma a tokens rest → EndsBoth tokens
unfolding ◌>>◌
at_attachment a tokens rest (m, comma, (n, (l, is, kind, _), node)) =
    let none : NoFunctionAttribute tokens = no_function_attribute_at Punct _ tokens m (λ e. cc) (λ e. cc) (λ e. cc) comma in
    record {
      operation = record {
        no_pointer = mark_no_pointer 44 tokens m (λ e. omega arith) comma;
        no_operand = λ b d. subst (λ ls. EndsNowhere (any_of MdName) ls) (token_leaves_one _ _ _ tokens b m d.0 comma) d.1 n (l, is, kind, tt);
        no_attribute = no_attribute_here tokens none;
      };
      call = record { no_attribute = none; no_value = λ b d. marks_apart 44 61 tokens m b (λ e. omega arith) comma d };
    }

before_attachments : (xs : List (List ℕ × NodeRef)) (tokens rest : List Lexeme) → each behind_comma xs tokens rest → EndsInst rest → EndsBoth tokens
unfolding ◌>>◌
before_attachments [] tokens rest same e = subst EndsBoth (sym same) (both rest e)
before_attachments (x ∷ xs) tokens rest (m, one, more) e = at_attachment x tokens m one

-- all attachments
all_attachments : (tokens rest : List Lexeme) → any_attachments tokens rest → EndsInst rest → skipped_attachments tokens rest
all_attachments tokens rest d e = record { skipped = d; all = e.no_comma }

-- no terminator may be given a name
no_value_ends : (o : Op) → is_terminator o ≡ true → IsTrue (may_have_name o) → ⊥
no_value_ends op.ReturnVoid ends may = true≢false (sym may)
no_value_ends (op.Return given) ends may = true≢false (sym may)
no_value_ends (op.Jump target) ends may = true≢false (sym may)
no_value_ends (op.Branch condition accepted rejected) ends may = true≢false (sym may)
no_value_ends (op.Switch selector default cases) ends may = true≢false (sym may)
no_value_ends op.Unreachable ends may = true≢false (sym may)
no_value_ends other ends may = true≢false (sym ends)

module _ (names : List NameText) where
  -- an instruction of the grammar: the word of what it does, or a name
  pub inst_ends_other : (next : ℕ) (i : Inst) (tokens rest : List Lexeme) → inst names next i tokens rest → EndsInst tokens
  unfolding ◌>>◌
  inst_ends_other next i tokens rest (at, (m, named, (n, does, attached))) = by_name i.defines named
    where
      by_name : (name : Option Name) → naming names next i.byte i.op name tokens m → EndsInst tokens
      by_name (Some name) (inl (may, (k, (l, is, kind, _), sign))) = local_ends_inst tokens k (l, is, kind, tt)
      by_name (Some name) (inr (_, same)) = word_ends_inst names i.op tokens n (subst (λ ls. operation names i.op ls n) (sym same) does)
      by_name None (_, same) = word_ends_inst names i.op tokens n (subst (λ ls. operation names i.op ls n) (sym same) does)

  -- it ends its block exactly where the word says so
  pub inst_word : (next : ℕ) (i : Inst) (tokens rest : List Lexeme) → inst names next i tokens rest → is_terminator i.op ≡ true → Begins terminator_word tokens
  unfolding ◌>>◌
  inst_word next i tokens rest (at, (m, named, (n, does, attached))) ends = by_name i.defines named
    where
      by_name : (name : Option Name) → naming names next i.byte i.op name tokens m → Begins terminator_word tokens
      by_name (Some name) (inl (may, _)) = absurd (no_value_ends i.op ends may)
      by_name (Some name) (inr (_, same)) = ends_block names i.op tokens n (subst (λ ls. operation names i.op ls n) (sym same) does) ends
      by_name None (_, same) = ends_block names i.op tokens n (subst (λ ls. operation names i.op ls n) (sym same) does) ends

  pub inst_goes_on : (next : ℕ) (i : Inst) (tokens rest : List Lexeme) → inst names next i tokens rest → is_terminator i.op ≡ false → EndsNowhere terminator_word tokens
  unfolding ◌>>◌
  inst_goes_on next i tokens rest (at, (m, named, (n, does, attached))) on = by_name i.defines named
    where
      by_name : (name : Option Name) → naming names next i.byte i.op name tokens m → EndsNowhere terminator_word tokens
      by_name (Some name) (inl (may, (k, l, sign))) = λ b w. kinds_apart LocalToken Word _ _ tokens k b (λ e. cc) l w
      by_name (Some name) (inr (_, same)) = goes_on names i.op tokens n (subst (λ ls. operation names i.op ls n) (sym same) does) on
      by_name None (_, same) = goes_on names i.op tokens n (subst (λ ls. operation names i.op ls n) (sym same) does) on

  -- what an instruction does is whole before its attachments
  does_whole : (o : Op) (tokens middle rest : List Lexeme) → operation names o tokens middle → any_attachments middle rest → EndsInst rest → whole_operation names o tokens middle
  does_whole o tokens middle rest d attached e =
      let ends : EndsBoth middle = before_attachments attached.0 middle rest attached.1 e in
      operation_whole names o tokens middle d ends.operation ends.call

  unnamed_is_part : (o : Op) (tokens middle inside rest : List Lexeme) → tokens ≡ middle → whole_operation names o middle inside → skipped_attachments inside rest → inst_part.begins tokens rest
  unfolding ◌>>◌ inst_part
  unnamed_is_part o tokens middle inside rest same does attached =
      let here : whole_operation names o tokens inside = subst (λ ls. whole_operation names o ls inside) (sym same) does in
      let w = first_word names tokens inside o (operation_right names o tokens inside here) in
      inr (λ b l. kinds_apart LocalToken Word _ _ tokens b w.behind (λ e. cc) l w.stands, (inside, operation_is_part names o tokens inside here, attached))

  -- an instruction, once what it does is whole
  pub whole_is_part : (next byte : ℕ) (o : Op) (name : Option Name) (tokens middle inside rest : List Lexeme) → naming names next byte o name tokens middle → whole_operation names o middle inside → skipped_attachments inside rest → inst_part.begins tokens rest
  unfolding ◌>>◌ inst_part
  whole_is_part next byte o (Some name) tokens middle inside rest (inl (may, (k, l, sign))) does attached =
      inl (middle, (k, (names, name, l), sign), (inside, inr (may_be_named names o middle inside (operation_right names o middle inside does) (is_true (may_have_name o) may), operation_is_part names o middle inside does), attached))
  whole_is_part next byte o (Some name) tokens middle inside rest (inr (_, same)) does attached = unnamed_is_part o tokens middle inside rest same does attached
  whole_is_part next byte o None tokens middle inside rest (_, same) does attached = unnamed_is_part o tokens middle inside rest same does attached

  pub inst_is_part : (next : ℕ) (i : Inst) (tokens rest : List Lexeme) → inst names next i tokens rest → EndsInst rest → inst_part.begins tokens rest
  unfolding ◌>>◌
  inst_is_part next i tokens rest (at, (m, named, (n, does, attached))) e =
      whole_is_part next i.byte i.op i.defines tokens m n rest named (does_whole i.op m n rest does attached e) (all_attachments n rest attached e)

  -- instructions of the grammar up to the terminator
  pub insts_end_other : (next : ℕ) (is : List Inst) (tokens rest : List Lexeme) → insts names next is tokens rest → EndsInst tokens
  unfolding ◌>>◌
  insts_end_other next [] tokens rest d = absurd d
  insts_end_other next (i ∷ []) tokens rest (_, d) = inst_ends_other next i tokens rest d
  insts_end_other next (i ∷ j ∷ is) tokens rest (_, (m, d, more)) = inst_ends_other next i tokens m d

  pub insts_are_part : (next : ℕ) (is : List Inst) (tokens rest : List Lexeme) → insts names next is tokens rest → EndsInst rest → insts_part.begins tokens rest
  unfolding ◌>>◌
  insts_are_part next [] tokens rest d e = absurd d
  insts_are_part next (i ∷ []) tokens rest (ends, d) e = (0, tokens, refl, inst_word next i tokens rest d (is_true (is_terminator i.op) ends), inst_is_part next i tokens rest d e)
  insts_are_part next (i ∷ j ∷ is) tokens rest (on, (m, d, more)) e =
      let behind : insts_part.begins m rest = insts_are_part (next_after names (given names i.defines) next) (j ∷ is) m rest more e in
      (suc behind.0, behind.1, (m, (inst_goes_on next i tokens m d on, inst_is_part next i tokens m d (insts_end_other _ (j ∷ is) m rest more)), behind.2), behind.3, behind.4)

  -- before an instruction there is neither a label nor a `}`
  inst_begins : (next : ℕ) (i : Inst) (tokens rest : List Lexeme) → inst names next i tokens rest → Begins (any_of LocalToken) tokens ⊎ Begins (any_of Word) tokens
  unfolding ◌>>◌
  inst_begins next i tokens rest (at, (m, named, (n, does, attached))) = by_name i.defines named
    where
      word_begins : tokens ≡ m → Begins (any_of LocalToken) tokens ⊎ Begins (any_of Word) tokens
      word_begins same =
          let w = first_word names tokens n i.op (subst (λ ls. operation names i.op ls n) (sym same) does) in
          inr (w.behind, (w.stands.0, w.stands.1, w.stands.2, tt))

      by_name : (name : Option Name) → naming names next i.byte i.op name tokens m → Begins (any_of LocalToken) tokens ⊎ Begins (any_of Word) tokens
      by_name (Some name) (inl (may, (k, (l, is, kind, _), sign))) = inl (k, (l, is, kind, tt))
      by_name (Some name) (inr (_, same)) = word_begins same
      by_name None (_, same) = word_begins same

  inst_no_token : (kind : TokenKind) (test : Lexeme → Type 0) → (LocalToken ≡ kind → ⊥) → (Word ≡ kind → ⊥) → (tokens : List Lexeme) → Begins (any_of LocalToken) tokens ⊎ Begins (any_of Word) tokens → EndsNowhere (token kind test) tokens
  inst_no_token kind test no_local no_word tokens (inl (m, l)) b t = kinds_apart LocalToken kind _ _ tokens m b no_local l t
  inst_no_token kind test no_local no_word tokens (inr (m, w)) b t = kinds_apart Word kind _ _ tokens m b no_word w t

  insts_begin : (next : ℕ) (is : List Inst) (tokens rest : List Lexeme) → insts names next is tokens rest → Begins (any_of LocalToken) tokens ⊎ Begins (any_of Word) tokens
  unfolding ◌>>◌
  insts_begin next [] tokens rest d = absurd d
  insts_begin next (i ∷ []) tokens rest (_, d) = inst_begins next i tokens rest d
  insts_begin next (i ∷ j ∷ is) tokens rest (_, (m, d, more)) = inst_begins next i tokens m d

  insts_no_label : (next : ℕ) (is : List Inst) (tokens rest : List Lexeme) → insts names next is tokens rest → EndsNowhere (any_of Label) tokens
  insts_no_label next is tokens rest d = inst_no_token Label _ (λ e. cc) (λ e. cc) tokens (insts_begin next is tokens rest d)

  insts_no_close : (next : ℕ) (is : List Inst) (tokens rest : List Lexeme) → insts names next is tokens rest → EndsNowhere (mark 125) tokens
  insts_no_close next is tokens rest d = inst_no_token Punct _ (λ e. cc) (λ e. cc) tokens (insts_begin next is tokens rest d)

  -- a block
  pub block_parts : (next number byte : ℕ) (after : ℕ) (is : List Inst) (tokens middle rest : List Lexeme) → label names next number byte tokens middle → insts names after is middle rest → EndsInst rest → block_part.begins tokens rest
  unfolding ◌>>◌ block_part
  block_parts next number byte after is tokens middle rest (at, inl (l, same, kind, spelled)) d e = (middle, inl (names, number, (l, same, kind, spelled)), insts_are_part after is middle rest d e)
  block_parts next number byte after is tokens middle rest (at, inr (numbered, same)) d e =
      (middle, inr (same, subst (EndsNowhere (any_of Label)) (sym same) (insts_no_label after is middle rest d)), insts_are_part after is middle rest d e)

  block_ends_other : (next number byte : ℕ) (after : ℕ) (is : List Inst) (tokens middle rest : List Lexeme) → label names next number byte tokens middle → insts names after is middle rest → EndsInst tokens
  block_ends_other next number byte after is tokens middle rest (at, inl (l, same, kind, spelled)) d = label_ends_inst tokens middle (l, same, kind, tt)
  block_ends_other next number byte after is tokens middle rest (at, inr (numbered, same)) d = subst EndsInst (sym same) (insts_end_other after is middle rest d)

  block_no_close : (next number byte : ℕ) (after : ℕ) (is : List Inst) (tokens middle rest : List Lexeme) → label names next number byte tokens middle → insts names after is middle rest → EndsNowhere (mark 125) tokens
  block_no_close next number byte after is tokens middle rest (at, inl (l, same, kind, spelled)) d b close = kinds_apart Label Punct (λ _. Unit {0}) _ tokens middle b (λ e. cc) (l, same, kind, tt) close
  block_no_close next number byte after is tokens middle rest (at, inr (numbered, same)) d b close = insts_no_close after is middle rest d b (subst (λ ls. mark 125 ls b) same close)

  -- blocks, and the `}` behind them
  pub blocks_end_other : (next : ℕ) (bs : List (Block Inst ℕ)) (bytes : List ℕ) (tokens middle rest : List Lexeme) → blocks names next bs bytes tokens middle → mark 125 middle rest → EndsInst tokens
  unfolding ◌>>◌
  blocks_end_other next [] [] tokens middle rest same close = close_ends_inst tokens rest (subst (λ ls. mark 125 ls rest) (sym same) close)
  blocks_end_other next [] (byte ∷ bytes) tokens middle rest d close = absurd d
  blocks_end_other next (b ∷ bs) [] tokens middle rest d close = absurd d
  blocks_end_other next (b ∷ bs) (byte ∷ bytes) tokens middle rest (m, l, (n, is, more)) close = block_ends_other next b.name byte _ b.insts tokens m n l is

  pub more_are_part : (next : ℕ) (bs : List (Block Inst ℕ)) (bytes : List ℕ) (tokens middle rest : List Lexeme) → blocks names next bs bytes tokens middle → mark 125 middle rest → more_blocks_part.begins tokens rest
  unfolding ◌>>◌
  more_are_part next [] [] tokens middle rest same close = let here = subst (λ ls. mark 125 ls rest) (sym same) close in (0, tokens, refl, (rest, here), here)
  more_are_part next [] (byte ∷ bytes) tokens middle rest d close = absurd d
  more_are_part next (b ∷ bs) [] tokens middle rest d close = absurd d
  more_are_part next (b ∷ bs) (byte ∷ bytes) tokens middle rest (m, l, (n, is, more)) close =
      let behind : more_blocks_part.begins n rest = more_are_part (next_after names (block_names names b) next) bs bytes n middle rest more close in
      let ends : EndsInst n = blocks_end_other _ bs bytes n middle rest more close in
      (suc behind.0, behind.1, (n, (block_no_close next b.name byte _ b.insts tokens m n l is, block_parts next b.name byte _ b.insts tokens m n l is ends), behind.2), behind.3, behind.4)

  pub blocks_are_part : (next : ℕ) (b : Blocks) (tokens rest : List Lexeme) → blocks_here next names b tokens rest → blocks_part.begins tokens rest
  unfolding ◌>>◌
  blocks_are_part next b tokens rest (some, (middle, d, close)) = by_lists b.blocks b.labels some d
    where
      by_lists : (bs : List (Block Inst ℕ)) (bytes : List ℕ) → (bytes ≡ [] → ⊥) → blocks names next bs bytes tokens middle → blocks_part.begins tokens rest
      by_lists [] [] none same = absurd (none refl)
      by_lists [] (byte ∷ bytes) none d = absurd d
      by_lists (x ∷ xs) [] none d = absurd d
      by_lists (x ∷ xs) (byte ∷ bytes) none (m, l, (n, is, more)) =
          (n, block_parts next x.name byte _ x.insts tokens m n l is (blocks_end_other _ xs bytes n middle rest more close), more_are_part _ xs bytes n middle rest more close)
