-- Parameters: what they leave, and how they are read.
use Rattle.std.proofs.Common.{◌≡◌, List, [], ◌∷◌, codes, Result, Ok, Err, MatchResult, refl, sym, subst}
use Rattle.ll_tokens.specs.declared.kinds.TokenKind.TheVariants.{Punct}
use Rattle.ll_tokens.specs.Tokens.{Lexeme}
use Rattle.ll_tree.specs.declared.name.Name.{Name}
use Rattle.ll_tree.specs.declared.name.NameText.{NameText}
use Rattle.ll_parser.specs.NameReading.{ReadsWith}
use Rattle.ll_parser.specs.Productions.{Production, nothing, ◌>>◌, each, each_behind_comma}
use Rattle.kernel_tree.specs.declared.kernel.KernelParam.{KernelParam}
use Rattle.kernel_tree.specs.declared.kernel.ValueType.{ValueType}
use Rattle.kernel_tree.specs.declared.kernel.ValueType.TheVariants.{Int, Pointer}
use Rattle.kernel_text.specs.declared.error.KernelTextError.{KernelTextError}
use Rattle.kernel_text.specs.declared.error.KernelTextError.TheVariants.{NoMemory, Outside}
use Rattle.kernel_text.specs.declared.name_sorts.NameSort.TheVariants as sort
use Rattle.kernel_text.specs.declared.phrases.Phrase.TheVariants as phrase
use Rattle.kernel_text.specs.Grammar.{suffix, param}
use Rattle.kernel_text.specs.NameSorts.{written_name}
use Rattle.kernel_text.specs.Parts.{NoComma, NextFails, all_of, typed_name, next_param, params_end, some_params, params}
use Rattle.kernel_text.specs.Phrases.{words_of, pieces_of}
use Rattle.kernel_text.specs.Reading.{Fails, PhraseFails}
use Rattle.ll_parser.proofs.EndFacts.{ends_same}
use Rattle.ll_parser.proofs.TableFacts.{extends_same}
use Rattle.kernel_text.proofs.ManyFacts.{all_rest}
use Rattle.kernel_text.proofs.NameFacts.{written_rest}
use Rattle.kernel_text.proofs.PhraseFacts.{words_one, words_apart, differ, is_same_wanted}
use Rattle.kernel_text.proofs.ReadFacts.{Item, OneRest, Part, part, fails_by, reads_as, fails_first, fails_second, reads_two}
use Rattle.kernel_text.proofs.Sequences.{kind_number, LeavesOne, Apart, nothing_one, seq_one, first_apart, swapped, token_apart, begins, behind}
use Rattle.kernel_text.proofs.Shorter.{EndsBy, Shortens, token_shortens, shortens_ends, seq_ends, seq_shortens, exactly_shortens, words_end}
use Rattle.kernel_text.proofs.Triples.{behind_phrase, behind_words_rest, fails_behind_words, reads_behind_words}

-- a name of a value is no `addrspace`
pub value_no_suffix : (names : List NameText) (name : Name) → Apart (written_name sort.Value names name) (words_of phrase.PointerSuffix)
unfolding pieces_of kind_number
value_no_suffix names name = swapped _ _ (first_apart _ _ _ (token_apart _ _ _ _ refl))

-- behind nothing
pub behind_nothing : (q : Production) (tokens rest : List Lexeme) → (nothing >> q) tokens rest → q tokens rest
unfolding ◌>>◌
behind_nothing q tokens rest (m, same, d) = subst (λ ts. q ts rest) (sym same) d

pub with_nothing : (q : Production) (tokens rest : List Lexeme) → q tokens rest → (nothing >> q) tokens rest
unfolding ◌>>◌
with_nothing q tokens rest d = (tokens, refl, d)

typed_one : (names names' : List NameText) (t u : ValueType) (x y : Name) → LeavesOne (suffix t >> written_name sort.Value names x) (suffix u >> written_name sort.Value names' y)
typed_one names names' Int Int x y = seq_one nothing nothing _ _ nothing_one (written_rest sort.Value names names' x y)
typed_one names names' Pointer Pointer x y = seq_one _ _ _ _ (words_one phrase.PointerSuffix) (written_rest sort.Value names names' x y)
typed_one names names' Int Pointer x y = λ tokens a b d e. absurd (value_no_suffix names x tokens a _ (behind_nothing _ tokens a d) (begins _ _ tokens b e).1)
typed_one names names' Pointer Int x y = λ tokens a b d e. absurd (value_no_suffix names' y tokens b _ (behind_nothing _ tokens b e) (begins _ _ tokens a d).1)

pub typed_rest : OneRest typed_name
typed_rest names names' x y = typed_one names names' x.value_type y.value_type x.name y.name

pub typed_fails_in_pointer : (tokens middle : List Lexeme) (error told : KernelTextError) → told ≡ error → words_of phrase.PointerSuffix tokens middle → Fails (written_name sort.Value) middle error → Fails typed_name tokens told
typed_fails_in_pointer tokens middle error told same words fails =
    fails_by (written_name sort.Value) typed_name tokens middle error told same (λ names p rest d. by names p.value_type p.name rest d) fails
  where
    by : (names : List NameText) (t : ValueType) (name : Name) (rest : List Lexeme) → (suffix t >> written_name sort.Value names name) tokens rest → Part (written_name sort.Value) names middle
    by names Int name rest d = absurd (value_no_suffix names name tokens rest middle (behind_nothing _ tokens rest d) words)
    by names Pointer name rest d = part (written_name sort.Value) names name middle rest (behind _ _ _ tokens middle rest (words_one phrase.PointerSuffix) words d)

pub typed_fails_in_int : (tokens : List Lexeme) (error told no_pointer : KernelTextError) → told ≡ error → PhraseFails phrase.PointerSuffix tokens no_pointer → Fails (written_name sort.Value) tokens error → Fails typed_name tokens told
typed_fails_in_int tokens error told no_pointer same none fails =
    fails_by (written_name sort.Value) typed_name tokens tokens error told same (λ names p rest d. by names p.value_type p.name rest d) fails
  where
    by : (names : List NameText) (t : ValueType) (name : Name) (rest : List Lexeme) → (suffix t >> written_name sort.Value names name) tokens rest → Part (written_name sort.Value) names tokens
    by names Int name rest d = part (written_name sort.Value) names name tokens rest (behind_nothing _ tokens rest d)
    by names Pointer name rest d = absurd (none.none _ (begins _ _ tokens rest d).1)

pub pointer_param_read : (old new : List NameText) (name : Name) (tokens middle rest : List Lexeme) → words_of phrase.PointerSuffix tokens middle → ReadsWith (written_name sort.Value) old new name middle rest → ReadsWith typed_name old new (record { value_type = Pointer; name = name }) tokens rest
pointer_param_read old new name tokens middle rest words x =
    reads_as (behind_phrase phrase.PointerSuffix (written_name sort.Value)) typed_name name _ old new tokens tokens rest (λ names d. d)
    (reads_behind_words phrase.PointerSuffix (written_name sort.Value) (behind_phrase phrase.PointerSuffix (written_name sort.Value)) (λ b. b) (λ _ _ _ _ d. d) old new name name tokens middle rest (λ _ d. d) words x)

pub int_param_read : (old new : List NameText) (name : Name) (tokens rest : List Lexeme) → ReadsWith (written_name sort.Value) old new name tokens rest → ReadsWith typed_name old new (record { value_type = Int; name = name }) tokens rest
int_param_read old new name tokens rest x =
    reads_as (written_name sort.Value) typed_name name (record { value_type = Int; name = name }) old new tokens tokens rest (λ names d. with_nothing _ tokens rest d) x

pub param_rest : OneRest param
param_rest = behind_words_rest phrase.IntType typed_name typed_rest

pub next_param_rest : OneRest next_param
next_param_rest = behind_words_rest phrase.Comma param param_rest

pub next_param_goes_on : (names : List NameText) (p : KernelParam) (tokens rest : List Lexeme) → next_param names p tokens rest → NoComma tokens → ⊥
next_param_goes_on names p tokens rest d none = none _ (begins _ _ tokens rest d).1

pub next_param_fails : (tokens middle : List Lexeme) (error told : KernelTextError) → told ≡ error → words_of phrase.Comma tokens middle → Fails param middle error → NextFails next_param NoComma tokens told
next_param_fails tokens middle NoMemory told same words fails = subst (NextFails next_param NoComma tokens) (sym same) tt
next_param_fails tokens middle Outside told same words fails =
    subst (NextFails next_param NoComma tokens) (sym same) ((λ none. none middle words), fails_behind_words phrase.Comma param next_param (λ p. p) (λ _ _ _ _ d. d) tokens middle Outside Outside refl words fails)

pub next_param_read : (old new : List NameText) (p : KernelParam) (tokens middle rest : List Lexeme) → words_of phrase.Comma tokens middle → ReadsWith param old new p middle rest → ReadsWith next_param old new p tokens rest
next_param_read old new p tokens middle rest words x =
    reads_behind_words phrase.Comma param next_param (λ b. b) (λ _ _ _ _ d. d) old new p p tokens middle rest (λ _ d. d) words x

suffix_ends : (t : ValueType) → EndsBy (suffix t)
suffix_ends Int = ends_same
suffix_ends Pointer = words_end phrase.PointerSuffix

comma_shortens : Shortens (words_of phrase.Comma)
unfolding pieces_of
comma_shortens = exactly_shortens (Punct, codes ",") []

pub next_param_shorter : (names : List NameText) (p : KernelParam) → Shortens (next_param names p)
next_param_shorter names p =
    seq_shortens _ _ comma_shortens (seq_ends _ _ (words_end phrase.IntType) (seq_ends _ _ (suffix_ends p.value_type) (shortens_ends _ (token_shortens _ _))))

-- commas between parameters are commas before all but the first
pub commas_as_each : (names : List NameText) (ps : List KernelParam) (tokens rest : List Lexeme) → each_behind_comma (param names) ps tokens rest → each (next_param names) ps tokens rest
unfolding pieces_of ◌>>◌
commas_as_each names [] tokens rest same = same
commas_as_each names (p ∷ ps) tokens rest (m, comma, (n, d, more)) = (n, (m, (m, comma, refl), d), commas_as_each names ps n rest more)

each_as_commas : (names : List NameText) (ps : List KernelParam) (tokens rest : List Lexeme) → each (next_param names) ps tokens rest → each_behind_comma (param names) ps tokens rest
unfolding pieces_of ◌>>◌
each_as_commas names [] tokens rest same = same
each_as_commas names (p ∷ ps) tokens rest (n, (m, (k, comma, same), d), more) =
    (k, comma, (n, subst (λ ts. param names p ts n) (sym same) d, each_as_commas names ps n rest more))

pub start_no_comma : Apart (words_of phrase.BodyStart) (words_of phrase.Comma)
unfolding pieces_of differ is_same_wanted kind_number
start_no_comma = words_apart phrase.BodyStart phrase.Comma refl

pub int_no_start : Apart (words_of phrase.IntType) (words_of phrase.BodyStart)
unfolding pieces_of differ is_same_wanted kind_number
int_no_start = words_apart phrase.IntType phrase.BodyStart refl

pub params_end_shape : (names : List NameText) (ps : List KernelParam) (tokens rest : List Lexeme) → params_end names ps tokens rest → (all_of next_param NoComma names ps >> words_of phrase.BodyStart) tokens rest
unfolding ◌>>◌
params_end_shape names ps tokens rest (m, d, words) =
    (m, (commas_as_each names ps tokens m d, (λ end comma. start_no_comma m rest end words comma)), words)

pub params_end_join : (names : List NameText) (ps : List KernelParam) (tokens rest : List Lexeme) → (all_of next_param NoComma names ps >> words_of phrase.BodyStart) tokens rest → params_end names ps tokens rest
unfolding ◌>>◌
params_end_join names ps tokens rest (m, d, words) = (m, each_as_commas names ps tokens m d.0, words)

pub more_params_rest : OneRest (all_of next_param NoComma)
more_params_rest = all_rest next_param NoComma next_param_rest next_param_goes_on

pub params_end_rest : OneRest params_end
params_end_rest names names' ps qs tokens a b d e =
    seq_one _ _ _ _ (more_params_rest names names' ps qs) (words_one phrase.BodyStart) tokens a b (params_end_shape names ps tokens a d) (params_end_shape names' qs tokens b e)

-- the first parameter, and the others with what stands behind them
first_and_more : Item (KernelParam × List KernelParam)
first_and_more names c = param names c.0 >> params_end names c.1

some_as_pair : (tokens : List Lexeme) (error told : KernelTextError) → told ≡ error → Fails first_and_more tokens error → Fails some_params tokens told
unfolding first_and_more
some_as_pair tokens error told same fails = fails_by first_and_more some_params tokens tokens error told same split fails
  where
    split : (names : List NameText) (ps : List KernelParam) (rest : List Lexeme) → some_params names ps tokens rest → Part first_and_more names tokens
    split names [] rest d = absurd d
    split names (p ∷ ps) rest d = part first_and_more names (p, ps) tokens rest d

pub some_fails_in_first : (tokens : List Lexeme) (error told : KernelTextError) → told ≡ error → Fails param tokens error → Fails some_params tokens told
unfolding first_and_more
some_fails_in_first tokens error told same fails =
    some_as_pair tokens error told same (fails_first param params_end first_and_more (λ c. c.0) (λ c. c.1) (λ _ _ _ _ d. d) tokens error error refl fails)

pub some_fails_in_more : (old new : List NameText) (p : KernelParam) (tokens middle : List Lexeme) (error told : KernelTextError) → told ≡ error → ReadsWith param old new p tokens middle → Fails params_end middle error → Fails some_params tokens told
unfolding first_and_more
some_fails_in_more old new p tokens middle error told same x fails =
    some_as_pair tokens error told same (fails_second param params_end first_and_more (λ c. c.0) (λ c. c.1) (λ _ _ _ _ d. d) param_rest old new p tokens middle error error refl x fails)

pub some_read : (old mid new : List NameText) (p : KernelParam) (ps all : List KernelParam) (tokens middle rest : List Lexeme) → all ≡ p ∷ ps → ReadsWith param old mid p tokens middle → ReadsWith params_end mid new ps middle rest → ReadsWith some_params old new all tokens rest
unfolding first_and_more
some_read old mid new p ps all tokens middle rest is x y =
    subst (λ qs. ReadsWith some_params old new qs tokens rest) (sym is)
    (reads_as first_and_more some_params (p, ps) (p ∷ ps) old new tokens tokens rest (λ names d. d)
    (reads_two param params_end first_and_more (λ c. c.0) (λ c. c.1) (λ _ _ _ _ d. d) old mid new p ps (p, ps) tokens middle rest (λ _ d. d) x y))

-- no parameters, or some
pub no_params_answer : (names : List NameText) (tokens rest : List Lexeme) → words_of phrase.BodyStart tokens rest → ReadsWith params names names [] tokens rest
no_params_answer names tokens rest words = record {
  extends = extends_same names;
  reads = λ longer e. with_nothing _ tokens rest words;
}

params_from_some : (names : List NameText) (ps : List KernelParam) (tokens rest : List Lexeme) → some_params names ps tokens rest → params names ps tokens rest
unfolding ◌>>◌
params_from_some names [] tokens rest d = absurd d
params_from_some names (p ∷ ps) tokens rest (m, d, (n, more, words)) = (n, (m, d, more), words)

pub some_from_params : (names : List NameText) (p : KernelParam) (ps : List KernelParam) (tokens rest : List Lexeme) → params names (p ∷ ps) tokens rest → some_params names (p ∷ ps) tokens rest
unfolding ◌>>◌
some_from_params names p ps tokens rest (n, (m, d, more), words) = (m, d, (n, more, words))

pub params_answer : {X : Type 0} (of : X → List KernelParam) (left : X → List Lexeme) (old new : List NameText) (tokens : List Lexeme) (none : KernelTextError) (answer : Result X KernelTextError) → PhraseFails phrase.BodyStart tokens none → MatchResult answer (λ x. ReadsWith some_params old new (of x) tokens (left x)) (Fails some_params tokens) → MatchResult answer (λ x. ReadsWith params old new (of x) tokens (left x)) (Fails params tokens)
params_answer of left old new tokens none (Ok x) start y = reads_as some_params params (of x) (of x) old new tokens tokens (left x) (λ names d. params_from_some names (of x) tokens (left x) d) y
params_answer of left old new tokens none (Err e) start fails = fails_by some_params params tokens tokens e e refl split fails
  where
    split : (names : List NameText) (ps : List KernelParam) (rest : List Lexeme) → params names ps tokens rest → Part some_params names tokens
    split names [] rest d = absurd (start.none rest (behind_nothing _ tokens rest d))
    split names (p ∷ ps) rest d = part some_params names (p ∷ ps) tokens rest (some_from_params names p ps tokens rest d)

some_one : (names names' : List NameText) (p q : KernelParam) (ps qs : List KernelParam) → LeavesOne (some_params names (p ∷ ps)) (some_params names' (q ∷ qs))
some_one names names' p q ps qs = seq_one _ _ _ _ (param_rest names names' p q) (params_end_rest names names' ps qs)

pub some_no_start : (names : List NameText) (p : KernelParam) (ps : List KernelParam) → Apart (some_params names (p ∷ ps)) (words_of phrase.BodyStart)
some_no_start names p ps = first_apart _ _ _ (first_apart _ _ _ int_no_start)

pub params_rest : OneRest params
params_rest names names' [] [] = seq_one nothing nothing _ _ nothing_one (words_one phrase.BodyStart)
params_rest names names' [] (q ∷ qs) = λ tokens a b d e. absurd (some_no_start names' q qs tokens b a (some_from_params names' q qs tokens b e) (behind_nothing _ tokens a d))
params_rest names names' (p ∷ ps) [] = λ tokens a b d e. absurd (some_no_start names p ps tokens a b (some_from_params names p ps tokens a d) (behind_nothing _ tokens b e))
params_rest names names' (p ∷ ps) (q ∷ qs) = λ tokens a b d e. some_one names names' p q ps qs tokens a b (some_from_params names p ps tokens a d) (some_from_params names' q qs tokens b e)
