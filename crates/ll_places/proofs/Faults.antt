-- One fault is told of an input.
use Rattle.std.proofs.Common.{◌≡◌, ℕ, List, [], length, Option, None, Some, refl, sym, ap, ap₂, ◌∙◌, subst, inl, inr, arith}
use Rattle.std.proofs.lemmas.Str.{utf8_valid_len-IsValidUpTo}
use Rattle.ports.specs.declared.faults.LlFault.{LlFault}
use Rattle.rule_order.specs.Breaks.{first_refusal}
use Rattle.rule_order.specs.declared.breaks.Break.{Break}
use Rattle.ll_tokens.specs.Encoding.{IsEncodingFault}
use Rattle.ll_tokens.specs.Tokens.{BeginsNoToken, IsTokenized, Lexeme, Reads}
use Rattle.ll_tokens.proofs.Places.{no_token_at_end, one_reading}
use Rattle.ll_parser.specs.declared.refusal.Refusal.{Refusal}
use Rattle.ll_types.specs.Nesting.{nesting_refusal}
use Rattle.ll_modules.proofs.ItemsWhole.{refused_of_none}
use Rattle.ll_texts.specs.TextFaults.{IsGrammarFault, IsTextFault, break_of}
use Rattle.ll_texts.specs.TextRules.{HasTextRules, IsReading, text_rules}
use Rattle.ll_places.proofs.Items.{once_items}

same_fault : (f g : LlFault) → f.rule ≡ g.rule → f.byte ≡ g.byte → f ≡ g
same_fault f g rules bytes = ap₂ (λ (r b : ℕ). record { rule = r; byte = b }) rules bytes

-- the tokens of a text, and where it is stuck
record ReadUpTo (text : List ℕ) (tokens : List Lexeme) : Type 0 where
  rest : List ℕ
  reads : Reads (length text) tokens text rest
  none : BeginsNoToken rest

read_up_to : (text : List ℕ) (tokens : List Lexeme) (stuck : Option LlFault) → IsTokenized text tokens stuck → ReadUpTo text tokens
read_up_to text tokens None are = record { rest = []; reads = are; none = no_token_at_end }
read_up_to text tokens (Some fault) (rule, stuck) = record { rest = stuck.rest; reads = stuck.reads; none = stuck.no_token }

one_list : (text : List ℕ) (tokens others : List Lexeme) (stuck other : Option LlFault) → IsTokenized text tokens stuck → IsTokenized text others other → tokens ≡ others
one_list text tokens others stuck other d e =
    let a = read_up_to text tokens stuck d in
    let b = read_up_to text others other e in
    (one_reading (length text) text a.rest b.rest tokens others a.reads a.none b.reads b.none).0

one_stuck : (text : List ℕ) (tokens others : List Lexeme) (stuck other : Option LlFault) → IsTokenized text tokens stuck → IsTokenized text others other → stuck ≡ other
one_stuck text tokens others None None d e = refl
one_stuck text tokens others None (Some g) d (rule, e) =
    let same = one_reading (length text) text [] e.rest tokens others d no_token_at_end e.reads e.no_token in
    absurd (omega (arith, e.not_at_end, ap length same.1))
one_stuck text tokens others (Some f) None (rule, d) e =
    let same = one_reading (length text) text [] d.rest others tokens e no_token_at_end d.reads d.no_token in
    absurd (omega (arith, d.not_at_end, ap length same.1))
one_stuck text tokens others (Some f) (Some g) (rule, d) (rule', e) =
    let same = one_reading (length text) text d.rest e.rest tokens others d.reads d.no_token e.reads e.no_token in
    ap Some (same_fault f g (rule ∙ sym rule') (omega (arith, d.place, e.place, ap length same.1)))

one_refused : (tokens : List Lexeme) (refused other : Option Refusal) → IsReading tokens refused → IsReading tokens other → refused ≡ other
one_refused tokens None None d e = refl
one_refused tokens None (Some s) (m, is) e = absurd (refused_of_none tokens s m e is)
one_refused tokens (Some r) None d (m, is) = absurd (refused_of_none tokens r m d is)
one_refused tokens (Some r) (Some s) d e = ap Some (once_items.refuses tokens r s d e)

one_told : (a b : Break) → Some a ≡ Some b → a ≡ b
one_told a b e = cc

grammar_fault : (text : List ℕ) (f g : LlFault) → IsGrammarFault text f → IsGrammarFault text g → f ≡ g
grammar_fault text f g d e =
    let a : HasTextRules text d.rules = d.has in
    let b : HasTextRules text e.rules = e.has in
    let tokens : a.tokens ≡ b.tokens = one_list text a.tokens b.tokens a.stuck b.stuck a.tokenized b.tokenized in
    let stuck : a.stuck ≡ b.stuck = one_stuck text a.tokens b.tokens a.stuck b.stuck a.tokenized b.tokenized in
    let refused : a.refused ≡ b.refused = one_refused b.tokens a.refused b.refused (subst (λ ts. IsReading ts a.refused) tokens a.reading) b.reading in
    let rules : d.rules ≡ e.rules =
    a.are
    ∙ ap (λ ts. text_rules (length text) ts a.stuck a.refused (nesting_refusal ts)) tokens
    ∙ ap (λ s. text_rules (length text) b.tokens s a.refused (nesting_refusal b.tokens)) stuck
    ∙ ap (λ r. text_rules (length text) b.tokens b.stuck r (nesting_refusal b.tokens)) refused
    ∙ sym b.are in
    let told : break_of f ≡ break_of g = one_told (break_of f) (break_of g) (sym d.first ∙ ap first_refusal rules ∙ e.first) in
    same_fault f g (ap (λ (x : Break). x.rule) told) (ap (λ (x : Break). x.place) told)

encoding_fault : (input : List ℕ) (f g : LlFault) → IsEncodingFault input f → IsEncodingFault input g → f ≡ g
encoding_fault input f g d e =
    same_fault f g (d.rule ∙ sym e.rule) (sym (utf8_valid_len-IsValidUpTo input f.byte d.place) ∙ utf8_valid_len-IsValidUpTo input g.byte e.place)

pub one_fault : (input : List ℕ) (f g : LlFault) → IsTextFault input f → IsTextFault input g → f ≡ g
one_fault input f g (inl d) (inl e) = encoding_fault input f g d e
one_fault input f g (inl d) (inr (utf8, _)) = absurd (d.no_text utf8)
one_fault input f g (inr (utf8, _)) (inl e) = absurd (e.no_text utf8)
one_fault input f g (inr (_, d)) (inr (_, e)) = grammar_fault input f g d e
