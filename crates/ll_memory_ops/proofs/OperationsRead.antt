-- Instructions on memory as they are read: what exits of readers answer.
use Rattle.std.proofs.Common.{◌≡◌, ℕ, Bool, true, false, List, length, refl, sym, subst, inl, inr}
use Rattle.std.proofs.lemmas.List.{length-map}
use Rattle.ll_tokens.specs.declared.kinds.Token.{Token}
use Rattle.ll_tokens.specs.Tokens.{Lexeme, lexeme_of, lexemes_of}
use Rattle.ll_tree.specs.declared.name.NameText.{NameText}
use Rattle.ll_tree.specs.declared.op.Op.{Op}
use Rattle.ll_parser.specs.declared.refusal.ReadError.{ReadError}
use Rattle.ll_parser.specs.declared.refusal.ReadError.TheVariants.{NoMemory, Refused}
use Rattle.ll_parser.specs.declared.refusal.Refusal.{Refusal}
use Rattle.ll_parser.specs.GrammarTypes.{number}
use Rattle.ll_parser.specs.GrammarValues.{if_word}
use Rattle.ll_parser.specs.NameReading.{ReadsWith}
use Rattle.ll_parser.specs.Productions.{Production, word}
use Rattle.ll_parser.specs.Reading.{DerivesNone, EndsNowhere, number_rule}
use Rattle.ll_types.proofs.TypesRead.{reads_as}
use Rattle.ll_operands.specs.Parts.{Begins, Part, Refuses, either, number_part, optional, ◌then◌}
use Rattle.ll_operands.proofs.Readings.{first_refused, second_refused, told_as}
use Rattle.ll_memory_ops.specs.declared.opcodes.MemoryOpcode.{MemoryOpcode}
use Rattle.ll_memory_ops.specs.AccessParts.{if_word_part}
use Rattle.ll_memory_ops.specs.MemoryOpcodes.{opcode_word}
use Rattle.ll_memory_ops.specs.MemoryOperations.{behind, memory_operation}

pub operation_read : (key : MemoryOpcode) (old new : List NameText) (o : Op) (tokens middle rest : List Lexeme) → word (opcode_word key) tokens middle → ReadsWith (behind key) old new o middle rest → ReadsWith memory_operation old new o tokens rest
operation_read key old new o tokens middle rest w r = reads_as (behind key) memory_operation o o old new tokens middle rest rest (λ names d. d tokens w) r

-- an instruction that is made of what was read
pub made_of : {A B : Type 0} (p : List NameText → A → Production) (q : List NameText → B → Production) (b : A) (o made : B) (old new : List NameText) (tokens middle end rest : List Lexeme) → made ≡ o → ((names : List NameText) → p names b middle end → q names o tokens rest) → ReadsWith p old new b middle end → ReadsWith q old new made tokens rest
made_of p q b o made old new tokens middle end rest is step r = subst (λ x. ReadsWith q old new x tokens rest) (sym is) (reads_as p q b o old new tokens middle end rest step r)

pub number_refused : (tokens : List Token) (refusal : Refusal) → DerivesNone number (lexemes_of tokens) → refusal ≡ record { rule = number_rule (lexemes_of tokens); left = length tokens } → number_part.stops (lexemes_of tokens) refusal
number_refused tokens refusal none place =
    (none, subst (λ (n : ℕ). refusal ≡ record { rule = number_rule (lexemes_of tokens); left = n }) (sym (length-map tokens lexeme_of)) place)

-- the first part of several is refused, or one behind others
module _ (p q : Part) (tokens : List Lexeme) (error told : ReadError) (same : told ≡ error) where
  pub told_first : Refuses p tokens error → Refuses (p then q) tokens told
  told_first x = told_as (p then q) tokens error told same (first_refused p q tokens error x)

  pub told_second : (middle : List Lexeme) → p.begins tokens middle → Refuses q middle error → Refuses (p then q) tokens told
  told_second middle d x = told_as (p then q) tokens error told same (second_refused p q tokens middle error d x)

module _ (p q r : Part) (tokens middle : List Lexeme) (error told : ReadError) (same : told ≡ error) (d : p.begins tokens middle) where
  pub told_middle : Refuses q middle error → Refuses (p then q then r) tokens told
  told_middle x = told_second p (q then r) tokens error told same middle d (first_refused q r middle error x)

  pub told_third : (end : List Lexeme) → q.begins middle end → Refuses r end error → Refuses (p then q then r) tokens told
  told_third end e x = told_second p (q then r) tokens error told same middle d (second_refused q r middle end error e x)

-- a part is refused where its opening stands, and another one where it doesn't
module _ (opening : Production) (p q : Part) (tokens : List Lexeme) where
  pub either_told : (error told : ReadError) → told ≡ error → Begins opening tokens → Refuses p tokens error → Refuses (either opening p q) tokens told
  either_told NoMemory told same there x = subst (Refuses (either opening p q) tokens) (sym same) x
  either_told (Refused refusal) told same there x = subst (Refuses (either opening p q) tokens) (sym same) (inl (there, x))

  pub other_told : (error told : ReadError) → told ≡ error → EndsNowhere opening tokens → Refuses q tokens error → Refuses (either opening p q) tokens told
  other_told NoMemory told same nowhere x = subst (Refuses (either opening p q) tokens) (sym same) x
  other_told (Refused refusal) told same nowhere x = subst (Refuses (either opening p q) tokens) (sym same) (inr (nowhere, x))

pub optional_told : (opening : Production) (p : Part) (tokens : List Lexeme) (error told : ReadError) → told ≡ error → Begins opening tokens → Refuses p tokens error → Refuses (optional opening p) tokens told
optional_told opening p tokens NoMemory told same there x = subst (Refuses (optional opening p) tokens) (sym same) x
optional_told opening p tokens (Refused refusal) told same there x = subst (Refuses (optional opening p) tokens) (sym same) (there, x)

-- a word that stands or doesn't
pub if_word_is_part : (text : List ℕ) (there : Bool) (tokens rest : List Lexeme) → if_word text there tokens rest → (there ≡ false → EndsNowhere (word text) tokens) → (if_word_part text).begins tokens rest
if_word_is_part text true tokens rest d nowhere = inl d
if_word_is_part text false tokens rest d nowhere = inr (d, nowhere refl)
