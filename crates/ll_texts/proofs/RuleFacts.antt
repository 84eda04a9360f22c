-- Which rules of a text are broken.
use Rattle.std.proofs.Common.{◌≡◌, ℕ, ◌-◌, Bool, true, false, List, length, drop, Option, None, Some, refl, sym, ap, ◌∙◌, if◌then◌else◌}
use Rattle.std.specs.Option.{option_map, unwrap_or}
use Rattle.ports.specs.declared.faults.LlFault.{LlFault}
use Rattle.rule_order.specs.Breaks.{earlier, first_refusal, is_before}
use Rattle.rule_order.specs.declared.breaks.Break.{Break}
use Rattle.std.proofs.lemmas.List.{length-map}
use Rattle.ll_tokens.specs.declared.kinds.Token.{Token}
use Rattle.ll_tokens.specs.Tokens.{Lexeme, lexeme_of, lexemes_of}
use Rattle.ll_parser.specs.declared.refusal.Refusal.{Refusal}
use Rattle.ll_texts.specs.TextFaults.{break_of}
use Rattle.ll_parser.proofs.EndFacts.{lexemes_drop}
use Rattle.ll_texts.specs.TextRules.{place_of, text_rules}
use Rattle.ll_texts.specs.TextRules.{first_place as first_place_of}

-- a text of a module breaks none
pub none_broken : (end : ℕ) (tokens : List Lexeme) → first_refusal (text_rules end tokens None None None) ≡ None
none_broken end tokens = refl

-- of two breaks one is told
earlier_some : (a : Option Break) (b : Break) → earlier a (Some b) ≡ None → ⊥
earlier_some None b e = cc
earlier_some (Some a) b e = by (is_before b a) e
  where
    by : (test : Bool) → (if test then Some b else Some a) ≡ None → ⊥
    by true e = cc
    by false e = cc

some_earlier : (a : Break) (b : Option Break) → earlier (Some a) b ≡ None → ⊥
some_earlier a None e = cc
some_earlier a (Some b) e = earlier_some (Some a) b e

-- where tokens are refused, a rule is broken
refused_broken : (end : ℕ) (tokens : List Lexeme) (stuck : Option LlFault) (refusal : Refusal) (nested : Option Refusal) → first_refusal (text_rules end tokens stuck (Some refusal) nested) ≡ None → ⊥
refused_broken end tokens (Some fault) refusal nested e = some_earlier (record { rule = 2; place = fault.byte }) _ e
refused_broken end tokens None refusal nested e = some_earlier (record { rule = refusal.rule; place = place_of end tokens refusal.left }) _ e

map_some : (found : Option LlFault) (default : LlFault) (told : Option Break) → (told ≡ None → ⊥) → option_map break_of found ≡ told → told ≡ Some (break_of (unwrap_or found default))
map_some None default told some is = absurd (some (sym is))
map_some (Some fault) default told some is = sym is

pub refused_told : (end : ℕ) (tokens : List Lexeme) (stuck : Option LlFault) (refusal : Refusal) (nested : Option Refusal) (found : Option LlFault) (own made : LlFault) → option_map break_of found ≡ first_refusal (text_rules end tokens stuck (Some refusal) nested) → made ≡ unwrap_or found own → first_refusal (text_rules end tokens stuck (Some refusal) nested) ≡ Some (break_of made)
refused_told end tokens stuck refusal nested found own made is unwrapped =
    map_some found own (first_refusal (text_rules end tokens stuck (Some refusal) nested)) (refused_broken end tokens stuck refusal nested) is ∙ ap (λ (f : LlFault). Some (break_of f)) (sym unwrapped)

-- where nothing is told, the text has all its tokens, and brackets are nested no deeper
pub none_stuck : (end : ℕ) (tokens : List Lexeme) (stuck : Option LlFault) (nested : Option Refusal) → first_refusal (text_rules end tokens stuck None nested) ≡ None → stuck ≡ None
none_stuck end tokens None nested e = refl
none_stuck end tokens (Some fault) nested e = absurd (some_earlier (record { rule = 2; place = fault.byte }) _ e)

pub none_nested : (end : ℕ) (tokens : List Lexeme) (stuck : Option LlFault) (nested : Option Refusal) → first_refusal (text_rules end tokens stuck None nested) ≡ None → nested ≡ None
none_nested end tokens stuck None e = refl
none_nested end tokens None (Some refusal) e = absurd cc
none_nested end tokens (Some fault) (Some refusal) e = let no : Some fault ≡ None = none_stuck end tokens (Some fault) (Some refusal) e in absurd cc

-- the place of what is left
pub place_is : (end skipped left place : ℕ) (tokens rest : List Token) → skipped ≡ length tokens - left → rest ≡ drop skipped tokens → place ≡ first_place_of end (lexemes_of rest) → place ≡ place_of end (lexemes_of tokens) left
place_is end skipped left place tokens rest count is at =
    at ∙ ap (λ ts. first_place_of end (lexemes_of ts)) is ∙ ap (first_place_of end) (lexemes_drop skipped tokens)
    ∙ ap (λ n. first_place_of end (drop n (lexemes_of tokens))) (count ∙ ap (λ n. n - left) (sym (length-map tokens lexeme_of)))
