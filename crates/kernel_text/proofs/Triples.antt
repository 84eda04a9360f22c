-- An item, a phrase and another item, one behind another.
use Rattle.std.proofs.Common.{◌≡◌, List, [], Result, Ok, Err, MatchResult, refl}
use Rattle.ll_tokens.specs.Tokens.{Lexeme}
use Rattle.ll_tree.specs.declared.name.NameText.{NameText}
use Rattle.ll_parser.specs.NameReading.{ReadsWith}
use Rattle.ll_parser.specs.Productions.{◌>>◌}
use Rattle.kernel_text.specs.declared.error.KernelTextError.{KernelTextError}
use Rattle.kernel_text.specs.declared.phrases.Phrase.{Phrase}
use Rattle.kernel_text.specs.Phrases.{words_of}
use Rattle.kernel_text.specs.Reading.{Fails, PhraseFails}
use Rattle.kernel_text.proofs.PhraseFacts.{words_one}
use Rattle.kernel_text.proofs.Sequences.{seq_one}
use Rattle.kernel_text.proofs.ReadFacts.{Item, OneRest, phrase_item, phrase_reads, phrase_fails, phrase_rest, fails_first, fails_second, reads_two}

-- a phrase, and an item behind it
abbrev pub behind_phrase : {B : Type 0} → Phrase → Item B → Item B
behind_phrase p q names b = words_of p >> q names b

pub behind_words_rest : {B : Type 0} (p : Phrase) (q : Item B) → OneRest q → OneRest (behind_phrase p q)
behind_words_rest p q one names names' x y = seq_one _ _ _ _ (words_one p) (one names names' x y)

module _ {B C : Type 0} (p : Phrase) (q : Item B) (r : Item C) (last : C → B)
    (shape : (names : List NameText) (c : C) (tokens rest : List Lexeme) → r names c tokens rest → (words_of p >> q names (last c)) tokens rest) where
  pub fails_at_words : (tokens : List Lexeme) (error told : KernelTextError) → told ≡ error → PhraseFails p tokens error → Fails r tokens told
  fails_at_words tokens error told same fails = fails_first (phrase_item p) q r (λ _. tt) last shape tokens error told same (phrase_fails p tokens error fails)

  pub fails_behind_words : (tokens middle : List Lexeme) (error told : KernelTextError) → told ≡ error → words_of p tokens middle → Fails q middle error → Fails r tokens told
  fails_behind_words tokens middle error told same words fails =
      fails_second (phrase_item p) q r (λ _. tt) last shape (phrase_rest p) _ _ tt tokens middle error told same (phrase_reads p [] tokens middle words) fails

  pub reads_behind_words : (old new : List NameText) (b : B) (c : C) (tokens middle rest : List Lexeme) → ((names : List NameText) → (words_of p >> q names b) tokens rest → r names c tokens rest) → words_of p tokens middle → ReadsWith q old new b middle rest → ReadsWith r old new c tokens rest
  reads_behind_words old new b c tokens middle rest join words y =
      reads_two (phrase_item p) q r (λ _. tt) last shape old old new tt b c tokens middle rest join (phrase_reads p old tokens middle words) y

module _ {A B C : Type 0} (o : Item A) (p : Phrase) (q : Item B) (r : Item C) (first : C → A) (last : C → B)
    (shape : (names : List NameText) (c : C) (tokens rest : List Lexeme) → r names c tokens rest → (o names (first c) >> words_of p >> q names (last c)) tokens rest) where
  pub fails_at_first : (tokens : List Lexeme) (error told : KernelTextError) → told ≡ error → Fails o tokens error → Fails r tokens told
  fails_at_first tokens error told same fails = fails_first o (behind_phrase p q) r first last shape tokens error told same fails

  pub fails_at_phrase : OneRest o → (old new : List NameText) (a : A) (tokens middle : List Lexeme) (error told : KernelTextError) → told ≡ error → ReadsWith o old new a tokens middle → PhraseFails p middle error → Fails r tokens told
  fails_at_phrase one old new a tokens middle error told same x fails =
      fails_second o (behind_phrase p q) r first last shape one old new a tokens middle error told same x (fails_at_words p q (behind_phrase p q) (λ b. b) (λ _ _ _ _ d. d) middle error error refl fails)

  pub fails_at_last : OneRest o → (old new : List NameText) (a : A) (tokens middle second : List Lexeme) (error told : KernelTextError) → told ≡ error → ReadsWith o old new a tokens middle → words_of p middle second → Fails q second error → Fails r tokens told
  fails_at_last one old new a tokens middle second error told same x words fails =
      fails_second o (behind_phrase p q) r first last shape one old new a tokens middle error told same x (fails_behind_words p q (behind_phrase p q) (λ b. b) (λ _ _ _ _ d. d) middle second error error refl words fails)

  pub reads_three : (old mid new : List NameText) (a : A) (b : B) (c : C) (tokens middle second rest : List Lexeme) → ((names : List NameText) → (o names a >> words_of p >> q names b) tokens rest → r names c tokens rest) → ReadsWith o old mid a tokens middle → words_of p middle second → ReadsWith q mid new b second rest → ReadsWith r old new c tokens rest
  reads_three old mid new a b c tokens middle second rest join x words y =
      reads_two o (behind_phrase p q) r first last shape old mid new a b c tokens middle rest join x (reads_behind_words p q (behind_phrase p q) (λ b. b) (λ _ _ _ _ d. d) mid new b b middle second rest (λ _ d. d) words y)

-- the answer behind a phrase is that for both
pub words_answer : {B X : Type 0} (p : Phrase) (q r : Item B) → ((names : List NameText) (b : B) (tokens rest : List Lexeme) → r names b tokens rest → (words_of p >> q names b) tokens rest) → ((names : List NameText) (b : B) (tokens rest : List Lexeme) → (words_of p >> q names b) tokens rest → r names b tokens rest) → (of : X → B) (left : X → List Lexeme) (old new : List NameText) (tokens middle : List Lexeme) (answer : Result X KernelTextError) → words_of p tokens middle → MatchResult answer (λ x. ReadsWith q old new (of x) middle (left x)) (Fails q middle) → MatchResult answer (λ x. ReadsWith r old new (of x) tokens (left x)) (Fails r tokens)
words_answer p q r shape join of left old new tokens middle (Ok x) words y =
    reads_behind_words p q r (λ b. b) shape old new (of x) (of x) tokens middle (left x) (λ names d. join names (of x) tokens (left x) d) words y
words_answer p q r shape join of left old new tokens middle (Err e) words fails =
    fails_behind_words p q r (λ b. b) shape tokens middle e e refl words fails
