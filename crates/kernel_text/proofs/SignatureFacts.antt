-- What stands before a kernel's block, part by part.
use Rattle.std.proofs.Common.{◌≡◌, Bool, true, false, List, [], refl}
use Rattle.ll_tokens.specs.Tokens.{Lexeme}
use Rattle.ll_tree.specs.declared.name.Name.{Name}
use Rattle.ll_tree.specs.declared.name.NameText.{NameText}
use Rattle.ll_parser.specs.NameReading.{ReadsWith}
use Rattle.ll_parser.specs.Productions.{nothing, ◌>>◌}
use Rattle.ll_parser.specs.Reading.{EndsNowhere, DerivesNone}
use Rattle.kernel_tree.specs.declared.kernel.KernelParam.{KernelParam}
use Rattle.kernel_text.specs.declared.error.KernelTextError.{KernelTextError}
use Rattle.kernel_text.specs.declared.name_sorts.NameSort.TheVariants as sort
use Rattle.kernel_text.specs.declared.phrases.Phrase.TheVariants as phrase
use Rattle.kernel_text.specs.NameSorts.{written_name}
use Rattle.kernel_text.specs.Parts.{head, params, signature}
use Rattle.kernel_text.specs.Phrases.{words_of, pieces_of}
use Rattle.kernel_text.specs.Reading.{Fails, PhraseFails}
use Rattle.kernel_text.proofs.NameFacts.{written_rest}
use Rattle.kernel_text.proofs.ParamFacts.{behind_nothing, params_rest}
use Rattle.kernel_text.proofs.PhraseFacts.{words_one, words_apart, differ, is_same_wanted}
use Rattle.kernel_text.proofs.ReadFacts.{Item, OneRest, unnamed, unnamed_reads, unnamed_fails, fails_first, fails_second, reads_two}
use Rattle.kernel_text.proofs.Sequences.{kind_number, LeavesOne, Apart, nothing_one, seq_one, begins, behind}
use Rattle.kernel_text.proofs.Triples.{behind_words_rest, fails_at_first, fails_at_phrase, fails_at_last, reads_three}

pub lines_no_kernel : Apart (words_of phrase.TargetLines) (words_of phrase.KernelWords)
unfolding pieces_of differ is_same_wanted kind_number
lines_no_kernel = words_apart phrase.TargetLines phrase.KernelWords refl

pub head_one : (x y : Bool) → LeavesOne (head x) (head y)
head_one true true = seq_one _ _ _ _ (words_one phrase.TargetLines) (words_one phrase.KernelWords)
head_one false false = seq_one nothing nothing _ _ nothing_one (words_one phrase.KernelWords)
head_one true false = λ tokens a b d e. absurd (lines_no_kernel tokens _ b (begins _ _ tokens a d).1 (behind_nothing _ tokens b e))
head_one false true = λ tokens a b d e. absurd (lines_no_kernel tokens _ a (begins _ _ tokens b e).1 (behind_nothing _ tokens a d))

pub head_none_behind_lines : (tokens middle : List Lexeme) → words_of phrase.TargetLines tokens middle → EndsNowhere (words_of phrase.KernelWords) middle → DerivesNone head tokens
head_none_behind_lines tokens middle words none true rest d = none rest (behind _ _ _ tokens middle rest (words_one phrase.TargetLines) words d)
head_none_behind_lines tokens middle words none false rest d = lines_no_kernel tokens middle rest words (behind_nothing _ tokens rest d)

pub head_none : (tokens : List Lexeme) → EndsNowhere (words_of phrase.TargetLines) tokens → EndsNowhere (words_of phrase.KernelWords) tokens → DerivesNone head tokens
head_none tokens no_lines none true rest d = no_lines _ (begins _ _ tokens rest d).1
head_none tokens no_lines none false rest d = none rest (behind_nothing _ tokens rest d)

-- the kernel's name and its parameters
abbrev pub named_params : Item (Name × List KernelParam)
named_params names c = written_name sort.Kernel names c.0 >> words_of phrase.ParamsStart >> params names c.1

pub named_params_rest : OneRest named_params
named_params_rest names names' x y =
    seq_one _ _ _ _ (written_rest sort.Kernel names names' x.0 y.0) (behind_words_rest phrase.ParamsStart params params_rest names names' x.1 y.1)

pub signature_rest : OneRest signature
signature_rest names names' x y =
    seq_one _ _ _ _ (head_one x.has_targets y.has_targets) (named_params_rest names names' (x.name, x.params) (y.name, y.params))

pub signature_fails_at_head : (tokens : List Lexeme) (error told : KernelTextError) → told ≡ error → DerivesNone head tokens → Fails signature tokens told
signature_fails_at_head tokens error told same none =
    fails_first (unnamed head) named_params signature (λ s. s.has_targets) (λ s. (s.name, s.params)) (λ _ _ _ _ d. d) tokens error told same (unnamed_fails head tokens error none)

-- what fails behind the first words fails as a whole
behind_head : (has_targets : Bool) (tokens middle : List Lexeme) (error told : KernelTextError) → told ≡ error → head has_targets tokens middle → Fails named_params middle error → Fails signature tokens told
behind_head has_targets tokens middle error told same first fails =
    fails_second (unnamed head) named_params signature (λ s. s.has_targets) (λ s. (s.name, s.params)) (λ _ _ _ _ d. d) (λ _ _ x y. head_one x y) [] [] has_targets tokens middle error told same (unnamed_reads head [] has_targets tokens middle first) fails

pub signature_fails_at_name : (has_targets : Bool) (tokens named : List Lexeme) (error told : KernelTextError) → told ≡ error → head has_targets tokens named → Fails (written_name sort.Kernel) named error → Fails signature tokens told
signature_fails_at_name has_targets tokens named error told same first fails =
    behind_head has_targets tokens named error told same first
    (fails_at_first (written_name sort.Kernel) phrase.ParamsStart params named_params (λ c. c.0) (λ c. c.1) (λ _ _ _ _ d. d) named error error refl fails)

pub signature_fails_at_start : (has_targets : Bool) (old new : List NameText) (name : Name) (tokens named middle : List Lexeme) (error told : KernelTextError) → told ≡ error → head has_targets tokens named → ReadsWith (written_name sort.Kernel) old new name named middle → PhraseFails phrase.ParamsStart middle error → Fails signature tokens told
signature_fails_at_start has_targets old new name tokens named middle error told same first x fails =
    behind_head has_targets tokens named error told same first
    (fails_at_phrase (written_name sort.Kernel) phrase.ParamsStart params named_params (λ c. c.0) (λ c. c.1) (λ _ _ _ _ d. d) (written_rest sort.Kernel) old new name named middle error error refl x fails)

pub signature_fails_at_params : (has_targets : Bool) (old new : List NameText) (name : Name) (tokens named middle inside : List Lexeme) (error told : KernelTextError) → told ≡ error → head has_targets tokens named → ReadsWith (written_name sort.Kernel) old new name named middle → words_of phrase.ParamsStart middle inside → Fails params inside error → Fails signature tokens told
signature_fails_at_params has_targets old new name tokens named middle inside error told same first x words fails =
    behind_head has_targets tokens named error told same first
    (fails_at_last (written_name sort.Kernel) phrase.ParamsStart params named_params (λ c. c.0) (λ c. c.1) (λ _ _ _ _ d. d) (written_rest sort.Kernel) old new name named middle inside error error refl x words fails)

pub signature_read : (has_targets : Bool) (old mid new : List NameText) (name : Name) (ps : List KernelParam) (tokens named middle inside rest : List Lexeme) → head has_targets tokens named → ReadsWith (written_name sort.Kernel) old mid name named middle → words_of phrase.ParamsStart middle inside → ReadsWith params mid new ps inside rest → ReadsWith signature old new (record { has_targets = has_targets; name = name; params = ps }) tokens rest
signature_read has_targets old mid new name ps tokens named middle inside rest first x words y =
    reads_two (unnamed head) named_params signature (λ s. s.has_targets) (λ s. (s.name, s.params)) (λ _ _ _ _ d. d) old old new has_targets (name, ps) _ tokens named rest (λ _ d. d) (unnamed_reads head old has_targets tokens named first)
    (reads_three (written_name sort.Kernel) phrase.ParamsStart params named_params (λ c. c.0) (λ c. c.1) (λ _ _ _ _ d. d) old mid new name ps (name, ps) named middle inside rest (λ _ d. d) x words y)
