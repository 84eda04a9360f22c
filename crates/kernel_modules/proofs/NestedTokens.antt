-- How the walk over brackets goes through tokens: where no bracket is nested too deep, it goes on behind them.
use Rattle.std.proofs.Common.{◌≡◌, ℕ, ◌==◌, Bool, true, false, not, ◌&&◌, ◌||◌, if◌then◌else◌, List, [], ◌∷◌, length, Some, refl, sym, ap, ap₂, ◌∙◌}
use Rattle.std.proofs.lemmas.Bool.{and_parts, not-true}
use Rattle.ll_tokens.specs.declared.kinds.TokenKind.{TokenKind}
use Rattle.ll_tokens.specs.declared.kinds.TokenKind.TheVariants.{Punct}
use Rattle.ll_tokens.specs.Tokens.{Lexeme}
use Rattle.ll_parser.specs.Productions.{Production, nothing, ◌>>◌, each, each_behind_comma, listed, token}
use Rattle.ll_types.specs.declared.nesting.Bracket.{Bracket}
use Rattle.ll_types.specs.declared.nesting.Bracket.TheVariants.{Counted, Uncounted, Closing, Plain}
use Rattle.ll_types.specs.Nesting.{begins_group, bracket_at, bracket_of, depth_of, first_mark, first_too_deep, is_too_deep, mark_code, open_behind}
use Rattle.kernel_text.specs.Phrases.{Wanted, exactly, wanted_token}

-- where the first brackets are open before a production's tokens, the second are behind them
abbrev pub Leads : List Bool → List Bool → Production → Type 0
Leads before behind p = (tokens rest : List Lexeme) → p tokens rest → first_too_deep false before tokens ≡ first_too_deep false behind rest

pub nothing_leads : (brackets : List Bool) → Leads brackets brackets nothing
nothing_leads brackets tokens rest same = ap (first_too_deep false brackets) same

pub seq_leads : (a b c : List Bool) (p q : Production) → Leads a b p → Leads b c q → Leads a c (p >> q)
unfolding ◌>>◌
seq_leads a b c p q first second tokens rest (m, d, e) = first tokens m d ∙ second m rest e

pub each_leads : {A : Type 0} (brackets : List Bool) (item : A → Production) → ((x : A) → Leads brackets brackets (item x)) → (xs : List A) → Leads brackets brackets (each item xs)
each_leads brackets item one [] = nothing_leads brackets
each_leads brackets item one (x ∷ xs) = seq_leads brackets brackets brackets (item x) (each item xs) (one x) (each_leads brackets item one xs)

-- a turn of the walk
turn : (before behind : List Bool) (l : Lexeme) (rest : List Lexeme) (bracket : Bracket) → bracket_at false (l ∷ rest) ≡ bracket → is_too_deep bracket (depth_of before) ≡ false → begins_group l.kind l.text ≡ false → open_behind before bracket ≡ behind → first_too_deep false before (l ∷ rest) ≡ first_too_deep false behind rest
turn before behind l rest bracket is shallow no_group left =
    ap (λ b. if is_too_deep b (depth_of before) then Some (length (l ∷ rest)) else first_too_deep (begins_group l.kind l.text) (open_behind before b) rest) is
    ∙ ap (λ t. if t then Some (length (l ∷ rest)) else first_too_deep (begins_group l.kind l.text) (open_behind before bracket) rest) shallow
    ∙ ap₂ (λ g brackets. first_too_deep g brackets rest) no_group left

-- a token that is no mark and no word
pub plain_leads : (brackets : List Bool) (kind : TokenKind) (test : Lexeme → Type 0) → ((text : List ℕ) → mark_code kind text ≡ 0) → ((text : List ℕ) → begins_group kind text ≡ false) → Leads brackets brackets (token kind test)
plain_leads brackets kind test no_mark no_word tokens rest (l, is, of_kind, tested) =
    ap (first_too_deep false brackets) is
    ∙ turn brackets brackets l rest Plain
    (ap (λ code. bracket_of code (first_mark rest)) (ap (λ k. mark_code k l.text) of_kind ∙ no_mark l.text))
    refl
    (ap (λ k. begins_group k l.text) of_kind ∙ no_word l.text)
    refl

-- a `<`, 60, aside, what a mark is doesn't depend on the next one
next_aside : (code next : ℕ) → (code == 60) ≡ false → bracket_of code next ≡ bracket_of code 0
next_aside code next other = at next ∙ sym (at 0)
  where
    at : (n : ℕ) → bracket_of code n ≡ (if (code == 40) || ((code == 91) || (code == 123)) then Counted else (if (code == 41) || ((code == 93) || ((code == 125) || (code == 62))) then Closing else Plain))
    at n = ap (λ b. if (code == 40) || ((code == 91) || (code == 123)) then Counted else (if b then (if n == 123 then Uncounted else Counted) else (if (code == 41) || ((code == 93) || ((code == 125) || (code == 62))) then Closing else Plain))) other

-- a token as it is written: what it is as a bracket, and whether the walk goes on behind it
abbrev bracket_wanted : Wanted → Bracket
bracket_wanted w = bracket_of (mark_code w.0 w.1) 0

abbrev is_passed : List Bool → Wanted → Bool
is_passed brackets w =
    not (mark_code w.0 w.1 == 60) && (not (is_too_deep (bracket_wanted w) (depth_of brackets)) && not (begins_group w.0 w.1))

abbrev pub open_behind_all : List Bool → List Wanted → List Bool
open_behind_all brackets [] = brackets
open_behind_all brackets (w ∷ ws) = open_behind_all (open_behind brackets (bracket_wanted w)) ws

abbrev pub are_passed : List Bool → List Wanted → Bool
are_passed brackets [] = true
are_passed brackets (w ∷ ws) = is_passed brackets w && are_passed (open_behind brackets (bracket_wanted w)) ws

wanted_leads : (brackets : List Bool) (w : Wanted) → is_passed brackets w ≡ true → Leads brackets (open_behind brackets (bracket_wanted w)) (wanted_token w)
wanted_leads brackets w passed tokens rest (l, is, kind, text) =
    let parts = and_parts _ _ passed in
    let more = and_parts _ _ parts.1 in
    ap (first_too_deep false brackets) is
    ∙ turn brackets (open_behind brackets (bracket_wanted w)) l rest (bracket_wanted w)
    (ap₂ (λ k t. bracket_of (mark_code k t) (first_mark rest)) kind text ∙ next_aside (mark_code w.0 w.1) (first_mark rest) (not-true _ parts.0))
    (not-true _ more.0)
    (ap₂ begins_group kind text ∙ not-true _ more.1)
    refl

pub exactly_leads : (brackets : List Bool) (ws : List Wanted) → are_passed brackets ws ≡ true → Leads brackets (open_behind_all brackets ws) (exactly ws)
exactly_leads brackets [] passed = nothing_leads brackets
exactly_leads brackets (w ∷ ws) passed =
    let parts = and_parts _ _ passed in
    let next = open_behind brackets (bracket_wanted w) in
    seq_leads brackets next (open_behind_all next ws) (wanted_token w) (exactly ws) (wanted_leads brackets w parts.0) (exactly_leads next ws parts.1)

-- items with commas between them, inside one bracket
more_lead : {A : Type 0} (item : A → Production) → ((x : A) → Leads (true ∷ []) (true ∷ []) (item x)) → (xs : List A) → Leads (true ∷ []) (true ∷ []) (each_behind_comma item xs)
more_lead item one [] = nothing_leads (true ∷ [])
more_lead item one (x ∷ xs) =
    seq_leads _ _ _ _ _ (wanted_leads (true ∷ []) (Punct, 44 ∷ []) refl) (seq_leads _ _ _ _ _ (one x) (more_lead item one xs))

pub listed_lead : {A : Type 0} (item : A → Production) → ((x : A) → Leads (true ∷ []) (true ∷ []) (item x)) → (xs : List A) → Leads (true ∷ []) (true ∷ []) (listed item xs)
listed_lead item one [] = nothing_leads (true ∷ [])
listed_lead item one (x ∷ xs) = seq_leads _ _ _ _ _ (one x) (more_lead item one xs)
