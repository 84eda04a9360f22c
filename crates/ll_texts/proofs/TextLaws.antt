-- A text of a module breaks no rule, and nothing is told of it.
use Rattle.std.proofs.Common.{◌≡◌, ℕ, List, [], length, Option, None, Some, refl, sym, ap, ◌∙◌, subst, inl, inr, arith}
use Rattle.std.specs.Option.{option_map}
use Rattle.ports.specs.declared.faults.LlFault.{LlFault}
use Rattle.rule_order.specs.Breaks.{RulePlaces, first_refusal}
use Rattle.ll_tokens.specs.declared.kinds.Token.{Token}
use Rattle.ll_tokens.specs.Tokens.{IsStuckAt, IsTokenized, IsTokens, Lexeme, lexemes_of}
use Rattle.ll_tokens.proofs.Places.{no_token_at_end, one_reading}
use Rattle.ll_tree.specs.declared.module.LlModule.{LlModule}
use Rattle.ll_parser.specs.declared.refusal.ReadError.{ReadError}
use Rattle.ll_parser.specs.declared.refusal.ReadError.TheVariants.{Refused}
use Rattle.ll_parser.specs.declared.refusal.Refusal.{Refusal}
use Rattle.ll_types.specs.ValueRefusals.{Unless}
use Rattle.ll_parser.specs.GrammarItems.{IsModule}
use Rattle.ll_types.specs.Nesting.{nesting_refusal}
use Rattle.ll_modules.specs.Modules.{IsNoModule, items_part}
use Rattle.ll_modules.proofs.ItemsWhole.{refused_of_none}
use Rattle.ll_texts.specs.TextFaults.{IsGrammarFault, IsModuleInput, IsTextFault, break_of}
use Rattle.ll_texts.specs.TextRules.{HasTextRules, IsModuleText, IsReading, text_rules}
use Rattle.ll_texts.proofs.RuleFacts.{none_broken, none_nested, none_stuck}

-- a text with all its tokens has no place where none begins
not_stuck : (text : List ℕ) (tokens others : List Lexeme) (byte : ℕ) → IsTokens text tokens → IsStuckAt text others byte → ⊥
not_stuck text tokens others byte are stuck =
    let same = one_reading (length text) text [] stuck.rest tokens others are no_token_at_end stuck.reads stuck.no_token in
    omega (arith, stuck.not_at_end, ap length same.1)

one_list : (text : List ℕ) (tokens others : List Lexeme) (stuck : Option LlFault) → IsTokens text tokens → IsTokenized text others stuck → others ≡ tokens
one_list text tokens others None are other = (one_reading (length text) text [] [] others tokens other no_token_at_end are no_token_at_end).0
one_list text tokens others (Some fault) are (rule, stuck) = absurd (not_stuck text tokens others fault.byte are stuck)

none_is_stuck : (text : List ℕ) (tokens others : List Lexeme) (stuck : Option LlFault) → IsTokens text tokens → IsTokenized text others stuck → stuck ≡ None
none_is_stuck text tokens others None are other = refl
none_is_stuck text tokens others (Some fault) are (rule, stuck) = absurd (not_stuck text tokens others fault.byte are stuck)

-- tokens of a module aren't refused
none_refused : (tokens : List Lexeme) (m : LlModule) (refused : Option Refusal) → IsModule tokens m → IsReading tokens refused → refused ≡ None
none_refused tokens m None is reading = refl
none_refused tokens m (Some refusal) is stops = absurd (refused_of_none tokens refusal m stops is)

pub module_breaks_none : (text : List ℕ) (m : LlModule) (rules : List RulePlaces) → IsModuleText text m → HasTextRules text rules → first_refusal rules ≡ None
module_breaks_none text m rules is has =
    let same : has.tokens ≡ is.tokens = one_list text is.tokens has.tokens has.stuck is.are_tokens has.tokenized in
    let stuck : has.stuck ≡ None = none_is_stuck text is.tokens has.tokens has.stuck is.are_tokens has.tokenized in
    let refused : has.refused ≡ None = none_refused is.tokens m has.refused is.reads (subst (λ ts. IsReading ts has.refused) same has.reading) in
    let nested : nesting_refusal has.tokens ≡ None = ap nesting_refusal same ∙ is.shallow in
    ap first_refusal has.are
    ∙ ap (λ s. first_refusal (text_rules (length text) has.tokens s has.refused (nesting_refusal has.tokens))) stuck
    ∙ ap (λ r. first_refusal (text_rules (length text) has.tokens None r (nesting_refusal has.tokens))) refused
    ∙ ap (λ n. first_refusal (text_rules (length text) has.tokens None None n)) nested
    ∙ none_broken (length text) has.tokens

some_none : (fault : LlFault) → Some (break_of fault) ≡ None → ⊥
some_none fault e = absurd cc

pub module-not-faulty : (input : List ℕ) (fault : LlFault) → IsModuleInput input → IsTextFault input fault → ⊥
module-not-faulty input fault is (inl encoding) = encoding.no_text is.utf8
module-not-faulty input fault is (inr (utf8, told)) = some_none fault (sym told.first ∙ module_breaks_none input is.m told.rules is.text told.has)

-- what parsing comes to
pub parsed : (text : List ℕ) (tokens : List Lexeme) (stuck : Option LlFault) (nested : Option Refusal) (m : LlModule) → IsTokenized text tokens stuck → IsModule tokens m → nested ≡ nesting_refusal tokens → first_refusal (text_rules (length text) tokens stuck None nested) ≡ None → IsModuleText text m
parsed text tokens stuck nested m tokenized is nesting none = record {
  tokens = tokens;
  are_tokens = subst (IsTokenized text tokens) (none_stuck (length text) tokens stuck nested none) tokenized;
  reads = is;
  shallow = sym nesting ∙ none_nested (length text) tokens stuck nested none;
}

pub faulty : (text : List ℕ) (end : ℕ) (tokens : List Lexeme) (stuck : Option LlFault) (refused nested : Option Refusal) (fault : LlFault) → end ≡ length text → IsTokenized text tokens stuck → IsReading tokens refused → nested ≡ nesting_refusal tokens → first_refusal (text_rules end tokens stuck refused nested) ≡ Some (break_of fault) → IsGrammarFault text fault
faulty text end tokens stuck refused nested fault ends tokenized reading nesting first = record {
  rules = text_rules (length text) tokens stuck refused (nesting_refusal tokens);
  has = record { tokens = tokens; stuck = stuck; refused = refused; tokenized = tokenized; reading = reading; are = refl };
  first = sym (ap (λ n. first_refusal (text_rules n tokens stuck refused nested)) ends ∙ ap (λ n. first_refusal (text_rules (length text) tokens stuck refused n)) nesting) ∙ first;
}

pub faulty_module : (text : List ℕ) (items here : List Token) (stuck : Option LlFault) (nested : Option Refusal) (m : LlModule) (found : Option LlFault) (fault : LlFault) → here ≡ items → found ≡ Some fault → IsTokenized text (lexemes_of items) stuck → IsModule (lexemes_of here) m → nested ≡ nesting_refusal (lexemes_of here) → option_map break_of found ≡ first_refusal (text_rules (length text) (lexemes_of here) stuck None nested) → IsGrammarFault text fault
faulty_module text items here stuck nested m found fault same is tokenized reads nesting first =
    faulty text (length text) (lexemes_of here) stuck None nested fault refl (subst (λ ts. IsTokenized text (lexemes_of ts) stuck) (sym same) tokenized) (m, reads) nesting (sym first ∙ ap (option_map break_of) is)

pub faulty_tokens : (text : List ℕ) (items here : List Token) (stuck : Option LlFault) (refusal : Refusal) (nested : Option Refusal) (fault : LlFault) (error : ReadError) → error ≡ Refused refusal → here ≡ items → IsTokenized text (lexemes_of items) stuck → Unless (λ (r : Refusal). items_part.stops (lexemes_of here) r × IsNoModule (lexemes_of here)) error → nested ≡ nesting_refusal (lexemes_of here) → first_refusal (text_rules (length text) (lexemes_of here) stuck (Some refusal) nested) ≡ Some (break_of fault) → IsGrammarFault text fault
faulty_tokens text items here stuck refusal nested fault error told same tokenized stops nesting first =
    faulty text (length text) (lexemes_of here) stuck (Some refusal) nested fault refl (subst (λ ts. IsTokenized text (lexemes_of ts) stuck) (sym same) tokenized) (subst (Unless (λ (r : Refusal). items_part.stops (lexemes_of here) r × IsNoModule (lexemes_of here))) told stops).0 nesting first

pub parsed_module : (text : List ℕ) (items here : List Token) (stuck : Option LlFault) (nested : Option Refusal) (m : LlModule) (found : Option LlFault) → here ≡ items → found ≡ None → IsTokenized text (lexemes_of items) stuck → IsModule (lexemes_of here) m → nested ≡ nesting_refusal (lexemes_of here) → option_map break_of found ≡ first_refusal (text_rules (length text) (lexemes_of here) stuck None nested) → IsModuleText text m
parsed_module text items here stuck nested m found same is tokenized reads nesting first =
    parsed text (lexemes_of here) stuck nested m (subst (λ ts. IsTokenized text (lexemes_of ts) stuck) (sym same) tokenized) reads nesting (sym first ∙ ap (option_map break_of) is)
