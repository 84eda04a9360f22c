-- Instructions: what they begin with, and what they leave.
use Rattle.std.proofs.Common.{◌≡◌, Bool, true, false, List, [], ◌∷◌, codes, refl, sym, subst}
use Rattle.ll_tokens.specs.declared.kinds.TokenKind.TheVariants.{Word}
use Rattle.ll_tokens.specs.Tokens.{Lexeme}
use Rattle.ll_tree.specs.declared.name.Name.{Name}
use Rattle.ll_tree.specs.declared.name.NameText.{NameText}
use Rattle.ll_parser.specs.NameReading.{ReadsWith}
use Rattle.ll_parser.specs.Productions.{Production, ◌>>◌, each}
use Rattle.kernel_tree.specs.declared.kernel.KernelInst.{KernelInst}
use Rattle.kernel_tree.specs.declared.kernel.KernelInst.TheVariants.{Add, Load, Store}
use Rattle.kernel_text.specs.declared.error.KernelTextError.{KernelTextError}
use Rattle.kernel_text.specs.declared.error.KernelTextError.TheVariants.{NoMemory, Outside}
use Rattle.kernel_text.specs.declared.name_sorts.NameSort.TheVariants as sort
use Rattle.kernel_text.specs.declared.operands.Operation.{Operation}
use Rattle.kernel_text.specs.declared.operands.Operation.TheVariants as op
use Rattle.kernel_text.specs.declared.operands.StoreOperands.{StoreOperands}
use Rattle.kernel_text.specs.declared.phrases.Phrase.TheVariants as phrase
use Rattle.kernel_text.specs.Grammar.{inst, inst_with, align}
use Rattle.kernel_text.specs.NameSorts.{written_name}
use Rattle.kernel_text.specs.Parts.{NoComma, AtReturn, NextFails, align_here, all_of, defining, storing, definition, store_operands, inst_here, insts_end}
use Rattle.kernel_text.specs.Phrases.{words_of, pieces_of}
use Rattle.kernel_text.specs.Reading.{Fails, PhraseFails}
use Rattle.ll_parser.proofs.EndFacts.{ends_same}
use Rattle.kernel_text.proofs.ManyFacts.{all_rest}
use Rattle.kernel_text.proofs.Shorter.{EndsBy, Shortens, token_shortens, shortens_ends, seq_ends, seq_shortens, exactly_shortens, words_end}
use Rattle.kernel_text.proofs.OperandFacts.{definition_rest, store_operands_rest}
use Rattle.kernel_text.proofs.PhraseFacts.{words_one, words_apart, differ, is_same_wanted}
use Rattle.kernel_text.proofs.ReadFacts.{OneRest, Part, part, fails_by, reads_as}
use Rattle.kernel_text.proofs.Sequences.{kind_number, Apart, seq_one, seq_apart_first, first_apart, swapped, token_apart, begins, behind}
use Rattle.kernel_text.proofs.Triples.{behind_phrase, behind_words_rest, reads_behind_words}

-- a name of a value is no word and no mark
pub value_no_store : (names : List NameText) (name : Name) → Apart (written_name sort.Value names name) (words_of phrase.StoreWords)
unfolding pieces_of kind_number
value_no_store names name = swapped _ _ (first_apart _ _ _ (token_apart _ _ _ _ refl))

pub value_no_return : (names : List NameText) (name : Name) → Apart (written_name sort.Value names name) (words_of phrase.Return)
unfolding pieces_of kind_number
value_no_return names name = swapped _ _ (first_apart _ _ _ (token_apart _ _ _ _ refl))

pub value_no_comma : (names : List NameText) (name : Name) → Apart (written_name sort.Value names name) (words_of phrase.Comma)
unfolding pieces_of kind_number
value_no_comma names name = swapped _ _ (first_apart _ _ _ (token_apart _ _ _ _ refl))

pub store_no_return : Apart (words_of phrase.StoreWords) (words_of phrase.Return)
unfolding pieces_of differ is_same_wanted kind_number
store_no_return = words_apart phrase.StoreWords phrase.Return refl

pub store_no_comma : Apart (words_of phrase.StoreWords) (words_of phrase.Comma)
unfolding pieces_of differ is_same_wanted kind_number
store_no_comma = words_apart phrase.StoreWords phrase.Comma refl

pub return_no_comma : Apart (words_of phrase.Return) (words_of phrase.Comma)
unfolding pieces_of differ is_same_wanted kind_number
return_no_comma = words_apart phrase.Return phrase.Comma refl

-- whatever stands for the alignment, an instruction is nothing else
pub inst_apart : (aligned : Bool → Production) (other : Production) → ((names : List NameText) (name : Name) → Apart (written_name sort.Value names name) other) → Apart (words_of phrase.StoreWords) other → (names : List NameText) (i : KernelInst) → Apart (inst_with aligned names i) other
inst_apart aligned other value store names (Add sum left right) = first_apart _ _ _ (value names sum)
inst_apart aligned other value store names (Load loaded pointer is_aligned) = first_apart _ _ _ (value names loaded)
inst_apart aligned other value store names (Store value' pointer is_aligned) = first_apart _ _ _ store

pub inst_no_comma : (aligned : Bool → Production) (names : List NameText) (i : KernelInst) → Apart (inst_with aligned names i) (words_of phrase.Comma)
inst_no_comma aligned = inst_apart aligned _ value_no_comma store_no_comma

pub inst_no_return : (aligned : Bool → Production) (names : List NameText) (i : KernelInst) → Apart (inst_with aligned names i) (words_of phrase.Return)
inst_no_return aligned = inst_apart aligned _ value_no_return store_no_return

pub inst_here_rest : OneRest inst_here
inst_here_rest names names' (Add sum left right) (Add sum' left' right') = definition_rest names names' (sum, op.Add left right) (sum', op.Add left' right')
inst_here_rest names names' (Add sum left right) (Load loaded pointer is_aligned) = definition_rest names names' (sum, op.Add left right) (loaded, op.Load (record { pointer = pointer; is_aligned = is_aligned }))
inst_here_rest names names' (Load loaded pointer is_aligned) (Add sum left right) = definition_rest names names' (loaded, op.Load (record { pointer = pointer; is_aligned = is_aligned })) (sum, op.Add left right)
inst_here_rest names names' (Load loaded pointer is_aligned) (Load loaded' pointer' is_aligned') = definition_rest names names' (loaded, op.Load (record { pointer = pointer; is_aligned = is_aligned })) (loaded', op.Load (record { pointer = pointer'; is_aligned = is_aligned' }))
inst_here_rest names names' (Store value pointer is_aligned) (Store value' pointer' is_aligned') = behind_words_rest phrase.StoreWords store_operands store_operands_rest names names' (record { value = value; access = record { pointer = pointer; is_aligned = is_aligned } }) (record { value = value'; access = record { pointer = pointer'; is_aligned = is_aligned' } })
inst_here_rest names names' (Store value pointer is_aligned) (Add sum left right) = λ tokens a b d e. absurd (seq_apart_first _ _ _ _ (swapped _ _ (value_no_store names' sum)) tokens a b d e)
inst_here_rest names names' (Store value pointer is_aligned) (Load loaded pointer' is_aligned') = λ tokens a b d e. absurd (seq_apart_first _ _ _ _ (swapped _ _ (value_no_store names' loaded)) tokens a b d e)
inst_here_rest names names' (Add sum left right) (Store value pointer is_aligned) = λ tokens a b d e. absurd (seq_apart_first _ _ _ _ (value_no_store names sum) tokens a b d e)
inst_here_rest names names' (Load loaded pointer' is_aligned') (Store value pointer is_aligned) = λ tokens a b d e. absurd (seq_apart_first _ _ _ _ (value_no_store names loaded) tokens a b d e)

-- a store, or a definition
pub store_read : (old new : List NameText) (s : StoreOperands) (tokens middle rest : List Lexeme) → words_of phrase.StoreWords tokens middle → ReadsWith store_operands old new s middle rest → ReadsWith inst_here old new (storing s) tokens rest
store_read old new s tokens middle rest words x =
    reads_as (behind_phrase phrase.StoreWords store_operands) inst_here s (storing s) old new tokens tokens rest (λ names d. d)
    (reads_behind_words phrase.StoreWords store_operands (behind_phrase phrase.StoreWords store_operands) (λ b. b) (λ _ _ _ _ d. d) old new s s tokens middle rest (λ _ d. d) words x)

pub definition_read : (old new : List NameText) (name : Name) (o : Operation) (tokens rest : List Lexeme) → ReadsWith definition old new (name, o) tokens rest → ReadsWith inst_here old new (defining name o) tokens rest
definition_read old new name (op.Add left right) tokens rest x = reads_as definition inst_here (name, op.Add left right) (Add name left right) old new tokens tokens rest (λ names d. d) x
definition_read old new name (op.Load a) tokens rest x = reads_as definition inst_here (name, op.Load a) (Load name a.pointer a.is_aligned) old new tokens tokens rest (λ names d. d) x

pub inst_fails_in_store : (tokens middle : List Lexeme) (error told : KernelTextError) → told ≡ error → words_of phrase.StoreWords tokens middle → Fails store_operands middle error → Fails inst_here tokens told
inst_fails_in_store tokens middle error told same words fails = fails_by store_operands inst_here tokens middle error told same split fails
  where
    split : (names : List NameText) (i : KernelInst) (rest : List Lexeme) → inst_here names i tokens rest → Part store_operands names middle
    split names (Add sum left right) rest d = absurd (value_no_store names sum tokens _ middle (begins _ _ tokens rest d).1 words)
    split names (Load loaded pointer is_aligned) rest d = absurd (value_no_store names loaded tokens _ middle (begins _ _ tokens rest d).1 words)
    split names (Store value pointer is_aligned) rest d = part store_operands names (record { value = value; access = record { pointer = pointer; is_aligned = is_aligned } }) middle rest (behind _ _ _ tokens middle rest (words_one phrase.StoreWords) words d)

pub inst_fails_in_definition : (tokens : List Lexeme) (error told no_store : KernelTextError) → told ≡ error → PhraseFails phrase.StoreWords tokens no_store → Fails definition tokens error → Fails inst_here tokens told
inst_fails_in_definition tokens error told no_store same none fails = fails_by definition inst_here tokens tokens error told same split fails
  where
    split : (names : List NameText) (i : KernelInst) (rest : List Lexeme) → inst_here names i tokens rest → Part definition names tokens
    split names (Add sum left right) rest d = part definition names (sum, op.Add left right) tokens rest d
    split names (Load loaded pointer is_aligned) rest d = part definition names (loaded, op.Load (record { pointer = pointer; is_aligned = is_aligned })) tokens rest d
    split names (Store value pointer is_aligned) rest d = absurd (none.none _ (begins _ _ tokens rest d).1)

-- what a missing `ret` and no instruction mean for the list of them
pub next_inst_fails : (tokens : List Lexeme) (error told no_return : KernelTextError) → told ≡ error → PhraseFails phrase.Return tokens no_return → Fails inst_here tokens error → NextFails inst_here AtReturn tokens told
next_inst_fails tokens NoMemory told no_return same none fails = subst (NextFails inst_here AtReturn tokens) (sym same) tt
next_inst_fails tokens Outside told no_return same none fails =
    subst (NextFails inst_here AtReturn tokens) (sym same) ((λ at_return. none.none at_return.0 at_return.1), fails)

align_ends : (x : Bool) → EndsBy (align_here x)
align_ends true tokens rest words = words_end phrase.Align tokens rest words
align_ends false tokens rest here = ends_same tokens rest here.1

value_shortens : (names : List NameText) (name : Name) → Shortens (written_name sort.Value names name)
value_shortens names name = token_shortens _ _

value_ends : (names : List NameText) (name : Name) → EndsBy (written_name sort.Value names name)
value_ends names name = shortens_ends _ (value_shortens names name)

store_shortens : Shortens (words_of phrase.StoreWords)
unfolding pieces_of
store_shortens = exactly_shortens (Word, codes "store") ((Word, codes "i32") ∷ [])

pub inst_shorter : (names : List NameText) (i : KernelInst) → Shortens (inst_here names i)
inst_shorter names (Add sum left right) =
    seq_shortens _ _ (value_shortens names sum) (seq_ends _ _ (words_end phrase.AddWords) (seq_ends _ _ (value_ends names left) (seq_ends _ _ (words_end phrase.Comma) (value_ends names right))))
inst_shorter names (Load loaded pointer is_aligned) =
    seq_shortens _ _ (value_shortens names loaded) (seq_ends _ _ (words_end phrase.LoadWords) (seq_ends _ _ (value_ends names pointer) (align_ends is_aligned)))
inst_shorter names (Store value pointer is_aligned) =
    seq_shortens _ _ store_shortens (seq_ends _ _ (value_ends names value) (seq_ends _ _ (words_end phrase.PointerOperand) (seq_ends _ _ (value_ends names pointer) (align_ends is_aligned))))

-- no instruction begins with `ret`
pub inst_goes_on : (names : List NameText) (i : KernelInst) (tokens rest : List Lexeme) → inst_here names i tokens rest → AtReturn tokens → ⊥
inst_goes_on names i tokens rest d at_return = inst_no_return align_here names i tokens rest at_return.0 d at_return.1

-- where no comma stands behind it, an instruction is read whole
pub inst_as_here : (names : List NameText) (i : KernelInst) (tokens rest : List Lexeme) → NoComma rest → inst names i tokens rest → inst_here names i tokens rest
unfolding ◌>>◌
inst_as_here names (Add sum left right) tokens rest none d = d
inst_as_here names (Load loaded pointer true) tokens rest none d = d
inst_as_here names (Store value pointer true) tokens rest none d = d
inst_as_here names (Load loaded pointer false) tokens rest none (a, name, (b, words, (c, name', same))) =
    (a, name, (b, words, (c, name', (subst NoComma (sym same) none, same))))
inst_as_here names (Store value pointer false) tokens rest none (a, words, (b, name, (c, words', (e, name', same)))) =
    (a, words, (b, name, (c, words', (e, name', (subst NoComma (sym same) none, same)))))

pub here_as_inst : (names : List NameText) (i : KernelInst) (tokens rest : List Lexeme) → inst_here names i tokens rest → inst names i tokens rest
unfolding ◌>>◌
here_as_inst names (Add sum left right) tokens rest d = d
here_as_inst names (Load loaded pointer true) tokens rest d = d
here_as_inst names (Store value pointer true) tokens rest d = d
here_as_inst names (Load loaded pointer false) tokens rest (a, name, (b, words, (c, name', (none, same)))) =
    (a, name, (b, words, (c, name', same)))
here_as_inst names (Store value pointer false) tokens rest (a, words, (b, name, (c, words', (e, name', (none, same))))) =
    (a, words, (b, name, (c, words', (e, name', same))))

-- instructions before a `ret`
at_return_no_comma : (tokens : List Lexeme) → AtReturn tokens → NoComma tokens
at_return_no_comma tokens at_return rest comma = return_no_comma tokens at_return.0 rest at_return.1 comma

insts_no_comma : (names : List NameText) (is : List KernelInst) (tokens rest : List Lexeme) → each (inst names) is tokens rest → AtReturn rest → NoComma tokens
insts_no_comma names [] tokens rest same at_return end comma = at_return_no_comma tokens (subst AtReturn (sym same) at_return) end comma
insts_no_comma names (i ∷ is) tokens rest d at_return end comma =
    let (middle, first) = begins _ _ tokens rest d in inst_no_comma align names i tokens middle end first comma

pub insts_as_here : (names : List NameText) (is : List KernelInst) (tokens rest : List Lexeme) → AtReturn rest → each (inst names) is tokens rest → each (inst_here names) is tokens rest
unfolding ◌>>◌
insts_as_here names [] tokens rest at_return same = same
insts_as_here names (i ∷ is) tokens rest at_return (m, first, more) =
    (m, inst_as_here names i tokens m (insts_no_comma names is m rest more at_return) first, insts_as_here names is m rest at_return more)

pub here_as_insts : (names : List NameText) (is : List KernelInst) (tokens rest : List Lexeme) → each (inst_here names) is tokens rest → each (inst names) is tokens rest
unfolding ◌>>◌
here_as_insts names [] tokens rest same = same
here_as_insts names (i ∷ is) tokens rest (m, first, more) = (m, here_as_inst names i tokens m first, here_as_insts names is m rest more)

-- `ret void }` begins with `ret`
pub end_at_return : (tokens rest : List Lexeme) → words_of phrase.BodyEnd tokens rest → AtReturn tokens
unfolding pieces_of ◌>>◌
end_at_return tokens rest (m, word, more) = (m, (m, word, refl))

pub insts_end_shape : (names : List NameText) (is : List KernelInst) (tokens rest : List Lexeme) → insts_end names is tokens rest → (all_of inst_here AtReturn names is >> words_of phrase.BodyEnd) tokens rest
unfolding ◌>>◌
insts_end_shape names is tokens rest (m, d, words) =
    let at_return = end_at_return m rest words in (m, (insts_as_here names is tokens m at_return d, at_return), words)

pub insts_end_join : (names : List NameText) (is : List KernelInst) (tokens rest : List Lexeme) → (all_of inst_here AtReturn names is >> words_of phrase.BodyEnd) tokens rest → insts_end names is tokens rest
unfolding ◌>>◌
insts_end_join names is tokens rest (m, d, words) = (m, here_as_insts names is tokens m d.0, words)

pub insts_rest : OneRest (all_of inst_here AtReturn)
insts_rest = all_rest inst_here AtReturn inst_here_rest inst_goes_on

pub insts_end_rest : OneRest insts_end
insts_end_rest names names' is js tokens a b d e =
    seq_one _ _ _ _ (insts_rest names names' is js) (words_one phrase.BodyEnd) tokens a b (insts_end_shape names is tokens a d) (insts_end_shape names' js tokens b e)
