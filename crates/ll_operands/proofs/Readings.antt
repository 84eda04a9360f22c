-- Parts as they are read: what the exits of a reader answer.
use Rattle.std.proofs.Common.{◌≡◌, ℕ, List, length, sym, subst, inl, inr, refl, Option, None, Some, MatchOption}
use Rattle.ll_tokens.specs.declared.kinds.Token.{Token}
use Rattle.ll_tokens.specs.declared.kinds.TokenKind.TheVariants.{Local as LocalToken, Global as GlobalToken, MdName}
use Rattle.ll_tokens.specs.Tokens.{Lexeme, lexemes_of}
use Rattle.ll_tree.specs.declared.name.NameKind.TheVariants.{Local as LocalName, Global as GlobalName}
use Rattle.ll_tree.specs.declared.name.NameText.{NameText}
use Rattle.ll_tree.specs.declared.ty.LlType.{LlType}
use Rattle.ll_tree.specs.Types.{int_width}
use Rattle.ll_parser.specs.declared.refusal.ReadError.{ReadError}
use Rattle.ll_parser.specs.declared.refusal.ReadError.TheVariants.{NoMemory, Refused}
use Rattle.ll_parser.specs.declared.refusal.Refusal.{Refusal}
use Rattle.ll_parser.specs.GrammarValues.{typed}
use Rattle.ll_parser.specs.NameReading.{NameFails, ReadsWith, any_of}
use Rattle.ll_parser.specs.Productions.{Production, mark, word}
use Rattle.ll_parser.specs.Reading.{EndsNowhere}
use Rattle.ll_parser.proofs.SpaceFacts.{mark_leaves_one}
use Rattle.ll_parser.proofs.TableFacts.{extends_then}
use Rattle.ll_types.specs.TypeParts.{ty_here}
use Rattle.ll_types.specs.TypeRefusals.{TypeRefused}
use Rattle.ll_types.specs.ValueParts.{value_of}
use Rattle.ll_types.specs.ValueRefusals.{NoneAnd, TypedFails, ValueFails}
use Rattle.ll_types.proofs.MembersRead.{derived}
use Rattle.ll_types.proofs.TypesRead.{unexpected_at}
use Rattle.ll_operands.specs.Parts.{Begins, Part, Refuses, any, global_part, local_part, mark_part, operand_comma, ◌then◌, type_part, type_then, typed_part, value_part, word_part}

-- something read with one table, then something with the table that this left
pub reads_then : {A B C : Type 0} (p : List NameText → A → Production) (q : List NameText → B → Production) (r : List NameText → C → Production) (a : A) (b : B) (c : C) (old between new : List NameText) (tokens middle rest end end' : List Lexeme) → ((names : List NameText) → p names a tokens middle → q names b rest end → r names c tokens end') → ReadsWith p old between a tokens middle → ReadsWith q between new b rest end → ReadsWith r old new c tokens end'
reads_then p q r a b c old between new tokens middle rest end end' step x y = record {
  extends = extends_then old between new x.extends y.extends;
  reads = λ longer e. step longer (x.reads longer (extends_then between new longer y.extends e)) (y.reads longer e);
}

-- what was read, whatever stands for it
pub any_read : {A : Type 0} (item : List NameText → A → Production) (old new : List NameText) (value : A) (tokens rest : List Lexeme) → ReadsWith item old new value tokens rest → any item tokens rest
any_read item old new value tokens rest x = (new, value, derived item old new value tokens rest x)

pub any_value_read : (t : LlType) (old new : List NameText) (value : _) (tokens rest : List Lexeme) → ReadsWith (value_of t) old new value tokens rest → (value_part (int_width t)).begins tokens rest
any_value_read t old new value tokens rest x = (t, refl, any_read (value_of t) old new value tokens rest x)

-- the first part is refused, or the second one behind the first
pub first_refused : (p q : Part) (tokens : List Lexeme) (told : ReadError) → Refuses p tokens told → Refuses (p then q) tokens told
first_refused p q tokens NoMemory x = x
first_refused p q tokens (Refused refusal) x = inl x

pub second_refused : (p q : Part) (tokens middle : List Lexeme) (told : ReadError) → p.begins tokens middle → Refuses q middle told → Refuses (p then q) tokens told
second_refused p q tokens middle NoMemory d x = x
second_refused p q tokens middle (Refused refusal) d x = inr (middle, d, x)

pub type_refused_first : (next : Option ℕ → Part) (tokens : List Lexeme) (told : ReadError) → Refuses type_part tokens told → Refuses (type_then next) tokens told
type_refused_first next tokens NoMemory x = x
type_refused_first next tokens (Refused refusal) x = inl x

pub refused_behind_type : (next : Option ℕ → Part) (names : List NameText) (t : LlType) (tokens middle : List Lexeme) (told : ReadError) → ty_here names t tokens middle → Refuses (next (int_width t)) middle told → Refuses (type_then next) tokens told
refused_behind_type next names t tokens middle NoMemory d x = x
refused_behind_type next names t tokens middle (Refused refusal) d x = inr (names, t, middle, d, x)

-- what the readers below answer, as refusals of parts
pub mark_refused : (code : ℕ) (tokens : List Token) (refusal : Refusal) → EndsNowhere (mark code) (lexemes_of tokens) → refusal ≡ record { rule = 3; left = length tokens } → (mark_part code).stops (lexemes_of tokens) refusal
mark_refused code tokens refusal nowhere place = unexpected_at (mark code) tokens refusal nowhere place

pub word_refused : (text : List ℕ) (tokens : List Token) (refusal : Refusal) → EndsNowhere (word text) (lexemes_of tokens) → refusal ≡ record { rule = 3; left = length tokens } → (word_part text).stops (lexemes_of tokens) refusal
word_refused text tokens refusal nowhere place = unexpected_at (word text) tokens refusal nowhere place

pub type_refused : (tokens : List Lexeme) (told : ReadError) → TypeRefused tokens told → Refuses type_part tokens told
type_refused tokens NoMemory x = x
type_refused tokens (Refused refusal) x = x.place

pub typed_refused : (tokens : List Lexeme) (told : ReadError) → NoneAnd typed TypedFails tokens told → Refuses typed_part tokens told
typed_refused tokens NoMemory x = x
typed_refused tokens (Refused refusal) x = x.1

pub value_refused : (t : LlType) (tokens : List Lexeme) (told : ReadError) → NoneAnd (value_of t) (ValueFails t) tokens told → Refuses (value_part (int_width t)) tokens told
value_refused t tokens NoMemory x = x
value_refused t tokens (Refused refusal) x = (t, refl, x.1)

pub local_refused : (tokens : List Lexeme) (told : ReadError) → NameFails LocalToken LocalName tokens told → Refuses local_part tokens told
local_refused tokens NoMemory x = x
local_refused tokens (Refused refusal) x = x

pub global_refused : (tokens : List Lexeme) (told : ReadError) → NameFails GlobalToken GlobalName tokens told → Refuses global_part tokens told
global_refused tokens NoMemory x = x
global_refused tokens (Refused refusal) x = x

-- what is told is what was answered
pub told_as : (p : Part) (tokens : List Lexeme) (error told : ReadError) → told ≡ error → Refuses p tokens error → Refuses p tokens told
told_as p tokens error told same x = subst (Refuses p tokens) (sym same) x

-- a comma that an attachment's name follows or doesn't
pub comma_told : {X : Type 0} (left : X → List Lexeme) (tokens behind : List Lexeme) (found : Option X) → mark 44 tokens behind
    → MatchOption found (Begins (any_of MdName) behind) (λ rest. (left rest ≡ behind) × EndsNowhere (any_of MdName) behind)
    → MatchOption found (EndsNowhere operand_comma tokens) (λ rest. operand_comma tokens (left rest))
comma_told left tokens behind None comma named = λ rest d.
    d.1 named.0 (subst (λ ls. any_of MdName ls named.0) (mark_leaves_one 44 tokens behind rest comma d.0) named.1)
comma_told left tokens behind (Some rest) comma (same, none) =
    (subst (mark 44 tokens) (sym same) comma, subst (EndsNowhere (any_of MdName)) (sym same) none)

-- a mark, then something read
pub mark_then_read : {A C : Type 0} (code : ℕ) (q : List NameText → A → Production) (r : List NameText → C → Production) (a : A) (c : C) (old new : List NameText) (tokens middle rest : List Lexeme) → ((names : List NameText) → mark code tokens middle → q names a middle rest → r names c tokens rest) → mark code tokens middle → ReadsWith q old new a middle rest → ReadsWith r old new c tokens rest
mark_then_read code q r a c old new tokens middle rest step m x = record { extends = x.extends; reads = λ longer e. step longer m (x.reads longer e) }

pub told_refusal : (p : Part) (tokens : List Lexeme) (refusal : Refusal) (told : ReadError) → told ≡ Refused refusal → p.stops tokens refusal → Refuses p tokens told
told_refusal p tokens refusal told same x = subst (Refuses p tokens) (sym same) x
