-- Names of instructions as they are read.
use Rattle.std.proofs.Common.{◌≡◌, ℕ, ◌+◌, ◌⊎◌, Bool, true, false, IsTrue, List, [], ◌∷◌, ◌++◌, None, Some, slice_get, refl, sym, ap, ◌∙◌, subst, inr, arith}
use Rattle.ll_tokens.specs.declared.kinds.TokenKind.TheVariants.{Local as LocalToken}
use Rattle.ll_tokens.specs.Tokens.{Lexeme}
use Rattle.ll_tree.specs.declared.name.Name.{Name}
use Rattle.ll_tree.specs.declared.name.NameKind.TheVariants.{Local as LocalName}
use Rattle.ll_tree.specs.declared.name.NameText.{NameText}
use Rattle.ll_tree.specs.declared.name.Spelling.TheVariants.{Number}
use Rattle.ll_tree.specs.declared.op.Op.{Op}
use Rattle.ll_parser.specs.declared.refusal.ReadError.{ReadError}
use Rattle.ll_parser.specs.declared.refusal.ReadError.TheVariants.{NoMemory, Refused}
use Rattle.ll_parser.specs.GrammarFunctions.{has_value, next_behind}
use Rattle.ll_parser.specs.GrammarValues.{local}
use Rattle.ll_parser.specs.NameReading.{ReadsWith, any_of}
use Rattle.ll_parser.specs.Productions.{◌>>◌, mark}
use Rattle.ll_parser.proofs.TableFacts.{entry_stays, extends_at_number, extends_same}
use Rattle.ll_types.proofs.TypesRead.{reads_as}
use Rattle.ll_operands.specs.Parts.{Refuses, optional}
use Rattle.ll_bodies.specs.Namings.{NamesUnnamed, given_name, given_part}

given_made : (names : List NameText) (name : Name) (tokens middle rest : List Lexeme) → mark 61 middle rest → local names name tokens middle → given_name names name tokens rest
unfolding ◌>>◌
given_made names name tokens middle rest sign d = (middle, d, sign)

pub given_read : (old new : List NameText) (name : Name) (tokens middle rest : List Lexeme) → ReadsWith local old new name tokens middle → mark 61 middle rest → ReadsWith given_name old new name tokens rest
given_read old new name tokens middle rest r sign = reads_as local given_name name name old new tokens tokens middle rest (λ names d. given_made names name tokens middle rest sign d) r

-- a name begins and is refused
pub given_refused : (tokens behind : List Lexeme) (first : Lexeme) (error told : ReadError) → told ≡ error → tokens ≡ first ∷ behind → first.kind ≡ LocalToken → Refuses given_part tokens error → Refuses (optional (any_of LocalToken) given_part) tokens told
given_refused tokens behind first NoMemory told same is kind x = subst (Refuses (optional (any_of LocalToken) given_part) tokens) (sym same) x
given_refused tokens behind first (Refused refusal) told same is kind x = subst (Refuses (optional (any_of LocalToken) given_part) tokens) (sym same) ((behind, (first, is, kind, tt)), x)

pub is_true : (b : Bool) → b ≡ true → IsTrue b
is_true b e = grind arith

pub without_value : (next byte : ℕ) (o : Op) (names : List NameText) → has_value o ≡ false → NamesUnnamed next next byte o names names None
without_value next byte o names none = record { extends = extends_same names; named = λ longer tokens e. (none, refl); numbered = λ longer e. refl }

pub with_next : (next end byte number : ℕ) (o : Op) (old new : List NameText) → has_value o ≡ true → end ≡ next + 1 → slice_get new number ≡ Some (record { kind = LocalName; spelling = Number next }) → (new ≡ old) ⊎ (new ≡ old ++ record { kind = LocalName; spelling = Number next } ∷ []) → NamesUnnamed next end byte o old new (Some (record { number = number; byte = byte }))
with_next next end byte number o old new valued grown entry kept = record {
  extends = extends_at_number old new _ kept;
  named = λ longer tokens e. inr ((is_true (has_value o) valued, entry_stays new longer number _ e entry, refl), refl);
  numbered = λ longer e. grown ∙ sym (ap (λ x. next_behind longer x next) (entry_stays new longer number _ e entry));
}
