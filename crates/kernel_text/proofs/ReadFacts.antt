-- Readers one behind another: what is derived, and that nothing is.
use Rattle.std.proofs.Common.{◌≡◌, List, sym, subst}
use Rattle.ll_tokens.specs.Tokens.{Lexeme}
use Rattle.ll_tree.specs.declared.name.NameText.{NameText}
use Rattle.ll_parser.specs.NameReading.{ReadsWith}
use Rattle.ll_parser.specs.Productions.{Production, ◌>>◌}
use Rattle.ll_parser.specs.Reading.{DerivesNone}
use Rattle.ll_parser.proofs.TableFacts.{extends_same, extends_then}
use Rattle.kernel_text.specs.declared.error.KernelTextError.{KernelTextError}
use Rattle.kernel_text.specs.declared.error.KernelTextError.TheVariants.{NoMemory, Outside}
use Rattle.kernel_text.specs.declared.phrases.Phrase.{Phrase}
use Rattle.kernel_text.specs.Phrases.{words_of}
use Rattle.kernel_text.specs.Reading.{Fails, PhraseFails}
use Rattle.kernel_text.proofs.Sequences.{LeavesOne, joined, begins, behind}
use Rattle.kernel_text.proofs.PhraseFacts.{words_one}

-- an item of the grammar, which a table of names and a value give
abbrev pub Item : Type 0 → Type 1
Item A = List NameText → A → Production

-- whatever the tables and the values, an item leaves one list of tokens
abbrev pub OneRest : {A : Type 0} → Item A → Type 0
OneRest {A} p = (names names' : List NameText) (x y : A) → LeavesOne (p names x) (p names' y)

-- what is read with a table is derived with that table
pub derived : {A : Type 0} (p : Item A) (old new : List NameText) (a : A) (tokens rest : List Lexeme) → ReadsWith p old new a tokens rest → p new a tokens rest
derived p old new a tokens rest x = x.reads new (extends_same new)

pub reads_as : {B C : Type 0} (q : Item B) (r : Item C) (b : B) (c : C) (old new : List NameText) (tokens middle rest : List Lexeme) → ((names : List NameText) → q names b middle rest → r names c tokens rest) → ReadsWith q old new b middle rest → ReadsWith r old new c tokens rest
reads_as q r b c old new tokens middle rest join y = record {
  extends = y.extends;
  reads = λ longer e. join longer (y.reads longer e);
}

-- a derivation of an item, with any value
pub record Part {B : Type 0} (q : Item B) (names : List NameText) (tokens : List Lexeme) : Type 0 where
  pub value : B
  pub rest : List Lexeme
  pub derivation : q names value tokens rest

pub part : {B : Type 0} (q : Item B) (names : List NameText) (b : B) (tokens rest : List Lexeme) → q names b tokens rest → Part q names tokens
part q names b tokens rest d = record { value = b; rest = rest; derivation = d }

-- what fails in a part fails as a whole
pub fails_by : {B C : Type 0} (q : Item B) (r : Item C) (tokens middle : List Lexeme) (error told : KernelTextError) → told ≡ error → ((names : List NameText) (c : C) (rest : List Lexeme) → r names c tokens rest → Part q names middle) → Fails q middle error → Fails r tokens told
fails_by q r tokens middle NoMemory told same split fails = subst (Fails r tokens) (sym same) tt
fails_by q r tokens middle Outside told same split fails =
    subst (Fails r tokens) (sym same) (λ names c rest d. let x = split names c rest d in fails names x.value x.rest x.derivation)

-- an item that no names and no value give, as one of the others
abbrev pub plain : Production → Item (Unit {0})
plain p names u = p

abbrev pub phrase_item : Phrase → Item (Unit {0})
phrase_item phrase = plain (words_of phrase)

pub phrase_reads : (phrase : Phrase) (names : List NameText) (tokens rest : List Lexeme) → words_of phrase tokens rest → ReadsWith (phrase_item phrase) names names tt tokens rest
phrase_reads phrase names tokens rest d = record { extends = extends_same names; reads = λ longer e. d }

pub phrase_fails : (phrase : Phrase) (tokens : List Lexeme) (error : KernelTextError) → PhraseFails phrase tokens error → Fails (phrase_item phrase) tokens error
phrase_fails phrase tokens error fails = subst (Fails (phrase_item phrase) tokens) (sym fails.outside) (λ names u rest d. fails.none rest d)

pub phrase_rest : (phrase : Phrase) → OneRest (phrase_item phrase)
phrase_rest phrase names names' x y = words_one phrase

-- an item that no names give
abbrev pub unnamed : {A : Type 0} → (A → Production) → Item A
unnamed p names = p

pub unnamed_reads : {A : Type 0} (p : A → Production) (names : List NameText) (a : A) (tokens rest : List Lexeme) → p a tokens rest → ReadsWith (unnamed p) names names a tokens rest
unnamed_reads p names a tokens rest d = record { extends = extends_same names; reads = λ longer e. d }

pub unnamed_fails : {A : Type 0} (p : A → Production) (tokens : List Lexeme) (error : KernelTextError) → DerivesNone p tokens → Fails (unnamed p) tokens error
unnamed_fails p tokens NoMemory none = tt
unnamed_fails p tokens Outside none = λ names. none

-- an item that is two others, one behind the other
module _ {A B C : Type 0} (p : Item A) (q : Item B) (r : Item C) (first : C → A) (second : C → B)
    (shape : (names : List NameText) (c : C) (tokens rest : List Lexeme) → r names c tokens rest → (p names (first c) >> q names (second c)) tokens rest) where
  pub fails_first : (tokens : List Lexeme) (error told : KernelTextError) → told ≡ error → Fails p tokens error → Fails r tokens told
  fails_first tokens error told same fails =
      fails_by p r tokens tokens error told same (λ names c rest d. let (middle, x) = begins _ _ tokens rest (shape names c tokens rest d) in part p names (first c) tokens middle x) fails

  pub fails_second : OneRest p → (old new : List NameText) (a : A) (tokens middle : List Lexeme) (error told : KernelTextError) → told ≡ error → ReadsWith p old new a tokens middle → Fails q middle error → Fails r tokens told
  fails_second one old new a tokens middle error told same x fails =
      fails_by q r tokens middle error told same (λ names c rest d. part q names (second c) middle rest (behind (p new a) (p names (first c)) (q names (second c)) tokens middle rest (one names new (first c) a) (derived p old new a tokens middle x) (shape names c tokens rest d))) fails

  pub reads_two : (old mid new : List NameText) (a : A) (b : B) (c : C) (tokens middle rest : List Lexeme) → ((names : List NameText) → (p names a >> q names b) tokens rest → r names c tokens rest) → ReadsWith p old mid a tokens middle → ReadsWith q mid new b middle rest → ReadsWith r old new c tokens rest
  reads_two old mid new a b c tokens middle rest join x y = record {
    extends = extends_then old mid new x.extends y.extends;
    reads = λ longer e. join longer (joined (p longer a) (q longer b) tokens middle rest (x.reads longer (extends_then mid new longer y.extends e)) (y.reads longer e));
  }

-- the error is passed on
pub passed_on : {A : Type 0} (r : Item A) (tokens : List Lexeme) (error told : KernelTextError) → told ≡ error → Fails r tokens error → Fails r tokens told
passed_on r tokens error told same fails = subst (Fails r tokens) (sym same) fails
