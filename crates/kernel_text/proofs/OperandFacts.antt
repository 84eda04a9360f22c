-- Operands and definitions, part by part.
use Rattle.std.proofs.Common.{◌≡◌, Bool, true, false, List, refl, sym, ◌∙◌}
use Rattle.ll_tokens.specs.Tokens.{Lexeme}
use Rattle.ll_tree.specs.declared.name.Name.{Name}
use Rattle.ll_tree.specs.declared.name.NameText.{NameText}
use Rattle.ll_parser.specs.NameReading.{ReadsWith}
use Rattle.ll_parser.specs.Productions.{◌>>◌}
use Rattle.kernel_text.specs.declared.error.KernelTextError.{KernelTextError}
use Rattle.kernel_text.specs.declared.name_sorts.NameSort.TheVariants as sort
use Rattle.kernel_text.specs.declared.operands.Operation.{Operation}
use Rattle.kernel_text.specs.declared.operands.Operation.TheVariants as op
use Rattle.kernel_text.specs.declared.phrases.Phrase.TheVariants as phrase
use Rattle.kernel_text.specs.NameSorts.{written_name}
use Rattle.kernel_text.specs.Parts.{NoComma, align_here, access, pair, load, store_operands, operation, definition}
use Rattle.kernel_text.specs.Phrases.{words_of, pieces_of}
use Rattle.kernel_text.specs.Reading.{Fails, PhraseFails}
use Rattle.kernel_text.proofs.NameFacts.{written_rest}
use Rattle.kernel_text.proofs.PhraseFacts.{words_one, words_apart, differ, is_same_wanted}
use Rattle.kernel_text.proofs.ReadFacts.{OneRest, Part, part, fails_by, reads_as}
use Rattle.kernel_text.proofs.Triples.{behind_phrase, behind_words_rest, reads_behind_words}
use Rattle.kernel_text.proofs.Sequences.{kind_number, LeavesOne, Apart, seq_one, seq_apart_first, swapped, begins, behind}

-- `,` stands where `, align 4` does
pub comma_first : (tokens rest : List Lexeme) → words_of phrase.Align tokens rest → NoComma tokens → ⊥
unfolding pieces_of ◌>>◌
comma_first tokens rest (m, comma, more) none = none m (m, comma, refl)

pub align_one : (x y : Bool) → LeavesOne (align_here x) (align_here y)
align_one true true = words_one phrase.Align
align_one true false = λ tokens a b words here. absurd (comma_first tokens a words here.0)
align_one false true = λ tokens a b here words. absurd (comma_first tokens b words here.0)
align_one false false = λ tokens a b here here'. sym here.1 ∙ here'.1

pub access_rest : OneRest access
access_rest names names' x y = seq_one _ _ _ _ (written_rest sort.Value names names' x.pointer y.pointer) (align_one x.is_aligned y.is_aligned)

pub pair_rest : OneRest pair
pair_rest names names' x y =
    seq_one _ _ _ _ (written_rest sort.Value names names' x.0 y.0) (behind_words_rest phrase.Comma (written_name sort.Value) (written_rest sort.Value) names names' x.1 y.1)

pub store_operands_rest : OneRest store_operands
store_operands_rest names names' x y =
    seq_one _ _ _ _ (written_rest sort.Value names names' x.value y.value) (behind_words_rest phrase.PointerOperand access access_rest names names' x.access y.access)

pub load_rest : OneRest load
load_rest = behind_words_rest phrase.LoadWords access access_rest

-- the words of a sum aren't those of a load
pub add_load_apart : Apart (words_of phrase.AddWords) (words_of phrase.LoadWords)
unfolding pieces_of differ is_same_wanted kind_number
add_load_apart = words_apart phrase.AddWords phrase.LoadWords refl

pub operation_rest : OneRest operation
operation_rest names names' (op.Add left right) (op.Add left' right') = behind_words_rest phrase.AddWords pair pair_rest names names' (left, right) (left', right')
operation_rest names names' (op.Load a) (op.Load a') = load_rest names names' a a'
operation_rest names names' (op.Add left right) (op.Load a) = λ tokens x y d e. absurd (seq_apart_first _ _ _ _ add_load_apart tokens x y d e)
operation_rest names names' (op.Load a) (op.Add left right) = λ tokens x y d e. absurd (seq_apart_first _ _ _ _ (swapped _ _ add_load_apart) tokens x y d e)

pub definition_rest : OneRest definition
definition_rest names names' x y = seq_one _ _ _ _ (written_rest sort.Value names names' x.0 y.0) (operation_rest names names' x.1 y.1)

-- a sum whose operands fail
pub operation_fails_in_sum : (tokens middle : List Lexeme) (error told : KernelTextError) → told ≡ error → words_of phrase.AddWords tokens middle → Fails pair middle error → Fails operation tokens told
operation_fails_in_sum tokens middle error told same words fails = fails_by pair operation tokens middle error told same split fails
  where
    split : (names : List NameText) (c : Operation) (rest : List Lexeme) → operation names c tokens rest → Part pair names middle
    split names (op.Add left right) rest d = part pair names (left, right) middle rest (behind _ _ _ tokens middle rest (words_one phrase.AddWords) words d)
    split names (op.Load a) rest d = absurd (add_load_apart tokens middle _ words (begins _ _ tokens rest d).1)

-- no sum, and a load fails
pub operation_fails_in_load : (tokens : List Lexeme) (error told no_sum : KernelTextError) → told ≡ error → PhraseFails phrase.AddWords tokens no_sum → Fails load tokens error → Fails operation tokens told
operation_fails_in_load tokens error told no_sum same none fails = fails_by load operation tokens tokens error told same split fails
  where
    split : (names : List NameText) (c : Operation) (rest : List Lexeme) → operation names c tokens rest → Part load names tokens
    split names (op.Add left right) rest d = absurd (none.none _ (begins _ _ tokens rest d).1)
    split names (op.Load a) rest d = part load names a tokens rest d

pub sum_read : (old new : List NameText) (left right : Name) (tokens middle rest : List Lexeme) → words_of phrase.AddWords tokens middle → ReadsWith pair old new (left, right) middle rest → ReadsWith operation old new (op.Add left right) tokens rest
sum_read old new left right tokens middle rest words x =
    reads_as (behind_phrase phrase.AddWords pair) operation (left, right) (op.Add left right) old new tokens tokens rest (λ names d. d)
    (reads_behind_words phrase.AddWords pair (behind_phrase phrase.AddWords pair) (λ b. b) (λ _ _ _ _ d. d) old new (left, right) (left, right) tokens middle rest (λ _ d. d) words x)
