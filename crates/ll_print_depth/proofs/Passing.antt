-- How the walk over brackets goes through the tokens of a production, and through those of its phrase.
use Rattle.std.proofs.Common.{◌≡◌, ℕ, Bool, true, false, if◌then◌else◌, List, [], ◌∷◌, ◌++◌, length, Option, None, Some, refl, sym, ap, ap₂, subst, ◌∙◌}
use Rattle.ll_tokens.specs.declared.kinds.TokenKind.{TokenKind}
use Rattle.ll_tokens.specs.declared.kinds.TokenKind.TheVariants.{Punct, Word}
use Rattle.std.specs.Prelude.{bytes_eq, codes}
use Rattle.ll_tokens.specs.Tokens.{Lexeme, has_kind}
use Rattle.ll_parser.specs.Productions.{◌>>◌, mark, token, word}
use Rattle.ll_types.specs.declared.nesting.Bracket.{Bracket}
use Rattle.ll_types.specs.declared.nesting.Bracket.TheVariants.{Counted, Uncounted, Closing, Plain}
use Rattle.ll_types.specs.Nesting.{begins_group, bracket_at, bracket_of, depth_of, first_mark, first_too_deep, is_too_deep, mark_code, open_behind, without_last}
use Rattle.ll_phrases.specs.Phrases.{Phrase, Empty, Gap, Mark, Solid, ◌&◌, a_word, spelled}

-- each token has the form of its kind
abbrev pub OfKind : List Lexeme → Type 0
OfKind [] = Unit {0}
OfKind (t ∷ ts) = (has_kind t.kind t.text ≡ true) × OfKind ts

-- the walk outside attribute groups, with these brackets open
abbrev pub deep : List Bool → List Lexeme → Option ℕ
deep brackets tokens = first_too_deep false brackets tokens

-- tokens of their kinds, with no bracket nested too deep
abbrev pub IsShallow : List Bool → List Lexeme → Type 0
IsShallow brackets tokens = (deep brackets tokens ≡ None) × OfKind tokens

-- From tokens that are shallow on, those that are left are, and the walk goes through those of the phrase; which brackets are open before both and
-- behind them
pub record Leads (before behind : List Bool) (tokens rest : List Lexeme) (phrase : Phrase) : Type 0 where
  pub leads : IsShallow before tokens → IsShallow behind rest × ((ts after : List Lexeme) → spelled phrase ts after → deep before ts ≡ deep behind after)

abbrev pub Passes : List Bool → List Lexeme → List Lexeme → Phrase → Type 0
Passes brackets = Leads brackets brackets

pub then-leads : {a b c : List Bool} {tokens middle rest : List Lexeme} {p q : Phrase} → Leads a b tokens middle p → Leads b c middle rest q → Leads a c tokens rest (p & q)
unfolding ◌>>◌
then-leads one two = record {
  leads = λ shallow.
      let (first, goes) = one.leads shallow in
      let (second, goes_on) = two.leads first in
      (second, λ ts after (m, here, there). goes ts m here ∙ goes_on m after there);
}

-- tokens that the phrase leaves out
pub left-out : {a : List Bool} {tokens rest : List Lexeme} → (IsShallow a tokens → IsShallow a rest) → Leads a a tokens rest Empty
left-out {a} leads = record { leads = λ shallow. (leads shallow, λ ts after same. ap (deep a) same) }

-- a blank that the tokens lack, before something or behind it
pub gap-leads : {a b : List Bool} {tokens rest : List Lexeme} {q : Phrase} {byte : ℕ} → Leads a b tokens rest q → Leads a b tokens rest (Gap byte & q)
unfolding ◌>>◌
gap-leads {a} passing = record {
  leads = λ shallow. let (left, goes) = passing.leads shallow in (left, λ ts after (m, same, there). ap (deep a) same ∙ goes m after there);
}

pub leads-gap : {a b : List Bool} {tokens rest : List Lexeme} {q : Phrase} {byte : ℕ} → Leads a b tokens rest q → Leads a b tokens rest (q & Gap byte)
unfolding ◌>>◌
leads-gap {a} {b} passing = record {
  leads = λ shallow. let (left, goes) = passing.leads shallow in (left, λ ts after (m, there, same). goes ts m there ∙ ap (deep b) same);
}

pub empty-leads : {a : List Bool} {tokens rest : List Lexeme} → tokens ≡ rest → Leads a a tokens rest Empty
empty-leads {a} {tokens} {rest} same = left-out (λ shallow. subst (λ (ts : List Lexeme). IsShallow a ts) same shallow)

-- tokens that the phrase leaves out, before others
pub skipped : {a b : List Bool} {tokens middle rest : List Lexeme} {q : Phrase} → (IsShallow a tokens → IsShallow a middle) → Leads a b middle rest q → Leads a b tokens rest q
skipped leads passing = record { leads = λ shallow. passing.leads (leads shallow) }

-- and behind others
pub skipped-behind : {a b : List Bool} {tokens middle rest : List Lexeme} {q : Phrase} → Leads a b tokens middle q → (IsShallow b middle → IsShallow b rest) → Leads a b tokens rest q
skipped-behind passing leads = record { leads = λ shallow. let (left, goes) = passing.leads shallow in (leads left, goes) }

-- the same tokens
pub same-tokens : {a b : List Bool} {tokens other rest : List Lexeme} {q : Phrase} → tokens ≡ other → Leads a b other rest q → Leads a b tokens rest q
same-tokens {a} {b} {tokens} {other} {rest} {q} same passing = subst (λ (ts : List Lexeme). Leads a b ts rest q) (sym same) passing

-- a turn of the walk
turn : (before behind : List Bool) (l : Lexeme) (rest : List Lexeme) (bracket : Bracket) → bracket_at false (l ∷ rest) ≡ bracket → is_too_deep bracket (depth_of before) ≡ false → begins_group l.kind l.text ≡ false → open_behind before bracket ≡ behind
    → deep before (l ∷ rest) ≡ deep behind rest
turn before behind l rest bracket is fits no_group left =
    ap (λ b. if is_too_deep b (depth_of before) then Some (length (l ∷ rest)) else first_too_deep (begins_group l.kind l.text) (open_behind before b) rest) is
    ∙ (ap (λ t. if t then Some (length (l ∷ rest)) else first_too_deep (begins_group l.kind l.text) (open_behind before bracket) rest) fits
    ∙ ap₂ (λ g b. first_too_deep g b rest) no_group left)

-- tokens that are shallow begin with no bracket that is too deep
not-too-deep : (before : List Bool) (l : Lexeme) (rest : List Lexeme) (bracket : Bracket) (test : Bool) → bracket_at false (l ∷ rest) ≡ bracket → is_too_deep bracket (depth_of before) ≡ test → deep before (l ∷ rest) ≡ None → is_too_deep bracket (depth_of before) ≡ false
not-too-deep before l rest bracket false is test none = test
not-too-deep before l rest bracket true is test none =
    absurd-some (sym none ∙ (ap (λ b. if is_too_deep b (depth_of before) then Some (length (l ∷ rest)) else first_too_deep (begins_group l.kind l.text) (open_behind before b) rest) is
    ∙ ap (λ t. if t then Some (length (l ∷ rest)) else first_too_deep (begins_group l.kind l.text) (open_behind before bracket) rest) test))
  where
    absurd-some : None ≡ Some (length (l ∷ rest)) → is_too_deep bracket (depth_of before) ≡ false
    absurd-some is-some = absurd cc

-- a token that is no bracket and begins no attribute group
pub record IsPlain (kind : TokenKind) (text : List ℕ) : Type 0 where
  pub no_mark : (next : ℕ) → bracket_of (mark_code kind text) next ≡ Plain
  pub no_group : begins_group kind text ≡ false

plain-turn : (brackets : List Bool) (l : Lexeme) (rest : List Lexeme) → IsPlain l.kind l.text → deep brackets (l ∷ rest) ≡ deep brackets rest
plain-turn brackets l rest is = turn brackets brackets l rest Plain (is.no_mark (first_mark rest)) refl is.no_group refl

pub plain-of : (kind : TokenKind) (text : List ℕ) (l : Lexeme) → l.kind ≡ kind → l.text ≡ text → IsPlain kind text → IsPlain l.kind l.text
plain-of kind text l of same is = subst (λ k. IsPlain k l.text) (sym of) (subst (λ t. IsPlain kind t) (sym same) is)

pub plain-leads : (brackets : List Bool) (l : Lexeme) (tokens rest : List Lexeme) → tokens ≡ l ∷ rest → IsPlain l.kind l.text → IsShallow brackets tokens → IsShallow brackets rest
plain-leads brackets l tokens rest is plain shallow =
    (sym (plain-turn brackets l rest plain) ∙ (ap (deep brackets) (sym is) ∙ shallow.0), (subst OfKind is shallow.1).1)

pub plain-phrase : (brackets : List Bool) (kind : TokenKind) (text : List ℕ) (ts behind : List Lexeme) → IsPlain kind text → token kind (λ lexeme. lexeme.text ≡ text) ts behind → deep brackets ts ≡ deep brackets behind
plain-phrase brackets kind text ts behind plain (l, is, of, same) = ap (deep brackets) is ∙ plain-turn brackets l behind (plain-of kind text l of same plain)

-- a plain token, for another plain one
pub plain-passes : {brackets : List Bool} (kind : TokenKind) (text : List ℕ) (l : Lexeme) (tokens rest : List Lexeme) → tokens ≡ l ∷ rest → IsPlain l.kind l.text → IsPlain kind text → Leads brackets brackets tokens rest (Solid kind text)
plain-passes {brackets} kind text l tokens rest is plain written = record {
  leads = λ shallow. (plain-leads brackets l tokens rest is plain shallow, λ ts behind spelt. plain-phrase brackets kind text ts behind written spelt);
}

-- a mark that is no bracket
mark-plain : (code : ℕ) (l : Lexeme) → ((next : ℕ) → bracket_of code next ≡ Plain) → l.kind ≡ Punct → l.text ≡ code ∷ [] → IsPlain l.kind l.text
mark-plain code l none of same = plain-of Punct (code ∷ []) l of same (record { no_mark = none; no_group = refl })

pub mark-passes : {brackets : List Bool} (code : ℕ) (tokens rest : List Lexeme) → ((next : ℕ) → bracket_of code next ≡ Plain) → mark code tokens rest → Leads brackets brackets tokens rest (Mark code)
mark-passes {brackets} code tokens rest none (l, is, of, same) = record {
  leads = λ shallow. (
    plain-leads brackets l tokens rest is (mark-plain code l none of same) shallow,
    λ ts behind (k, at, kind, text). ap (deep brackets) at ∙ plain-turn brackets k behind (mark-plain code k none kind text),
  );
}

-- what a bracket is counted as
abbrev pub opened : Bool → Bracket
opened true = Counted
opened false = Uncounted

open-flag : (brackets : List Bool) (flag : Bool) → open_behind brackets (opened flag) ≡ brackets ++ flag ∷ []
open-flag brackets true = refl
open-flag brackets false = refl

without-flag : (brackets : List Bool) (flag : Bool) → without_last (brackets ++ flag ∷ []) ≡ brackets
without-flag [] flag = refl
without-flag (b ∷ []) flag = refl
without-flag (b ∷ c ∷ bs) flag = ap (λ t. b ∷ t) (without-flag (c ∷ bs) flag)

mark-at : (code : ℕ) (l : Lexeme) (rest : List Lexeme) → l.kind ≡ Punct → l.text ≡ code ∷ [] → bracket_at false (l ∷ rest) ≡ bracket_of code (first_mark rest)
mark-at code l rest of same = ap₂ (λ k t. bracket_of (mark_code k t) (first_mark rest)) of same

mark-no-group : (l : Lexeme) → l.kind ≡ Punct → begins_group l.kind l.text ≡ false
mark-no-group l of = ap (λ k. begins_group k l.text) of

opening-turn : (brackets : List Bool) (flag : Bool) (code : ℕ) (l : Lexeme) (rest : List Lexeme) → l.kind ≡ Punct → l.text ≡ code ∷ [] → bracket_of code (first_mark rest) ≡ opened flag → is_too_deep (opened flag) (depth_of brackets) ≡ false
    → deep brackets (l ∷ rest) ≡ deep (brackets ++ flag ∷ []) rest
opening-turn brackets flag code l rest of same is fits = turn brackets (brackets ++ flag ∷ []) l rest (opened flag) (mark-at code l rest of same ∙ is) fits (mark-no-group l of) (open-flag brackets flag)

closing-turn : (brackets : List Bool) (flag : Bool) (code : ℕ) (l : Lexeme) (rest : List Lexeme) → ((next : ℕ) → bracket_of code next ≡ Closing) → l.kind ≡ Punct → l.text ≡ code ∷ [] → deep (brackets ++ flag ∷ []) (l ∷ rest) ≡ deep brackets rest
closing-turn brackets flag code l rest closes of same =
    turn (brackets ++ flag ∷ []) brackets l rest Closing (mark-at code l rest of same ∙ closes (first_mark rest)) refl (mark-no-group l of) (without-flag brackets flag)

-- a closing bracket
pub closing-leads : {brackets : List Bool} (flag : Bool) (code : ℕ) (tokens rest : List Lexeme) → ((next : ℕ) → bracket_of code next ≡ Closing) → mark code tokens rest → Leads (brackets ++ flag ∷ []) brackets tokens rest (Mark code)
closing-leads {brackets} flag code tokens rest closes (l, is, of, same) = record {
  leads = λ shallow. (
    (sym (closing-turn brackets flag code l rest closes of same) ∙ (ap (deep (brackets ++ flag ∷ [])) (sym is) ∙ shallow.0), (subst OfKind is shallow.1).1),
    λ ts after (k, at, kind, text). ap (deep (brackets ++ flag ∷ [])) at ∙ closing-turn brackets flag code k after closes kind text,
  );
}

-- An opening bracket before something. Whether it is counted may hang on the mark behind it, which is then the same in the phrase.
pub opening-leads : {brackets after_all : List Bool} {q : Phrase} (flag : Bool) (code : ℕ) (tokens a rest : List Lexeme) → bracket_of code (first_mark a) ≡ opened flag
    → ((ts after : List Lexeme) → spelled q ts after → bracket_of code (first_mark ts) ≡ opened flag) → mark code tokens a → Leads (brackets ++ flag ∷ []) after_all a rest q → Leads brackets after_all tokens rest (Mark code & q)
unfolding ◌>>◌
opening-leads {brackets} {after_all} {q} flag code tokens a rest opens opens_written (l, is, of, same) inside = record {
  leads = λ shallow.
      let first : deep brackets (l ∷ a) ≡ None = ap (deep brackets) (sym is) ∙ shallow.0 in
      let fits = not-too-deep brackets l a (opened flag) (is_too_deep (opened flag) (depth_of brackets)) (mark-at code l a of same ∙ opens) refl first in
      let (left, goes) = inside.leads (sym (opening-turn brackets flag code l a of same opens fits) ∙ first, (subst OfKind is shallow.1).1) in
      (left, λ ts after (m, (k, at, kind, text), there). ap (deep brackets) at ∙ (opening-turn brackets flag code k m kind text (opens_written m after there) fits ∙ goes m after there));
}

-- a bracket that is counted whatever stands behind it
pub counted-leads : {brackets after_all : List Bool} {q : Phrase} (code : ℕ) (tokens a rest : List Lexeme) → ((next : ℕ) → bracket_of code next ≡ Counted) → mark code tokens a → Leads (brackets ++ true ∷ []) after_all a rest q
    → Leads brackets after_all tokens rest (Mark code & q)
counted-leads code tokens a rest counts opens inside = opening-leads true code tokens a rest (counts (first_mark a)) (λ ts after is. counts (first_mark ts)) opens inside

-- words, and other tokens
pub word-plain : (text : List ℕ) → bytes_eq text (codes "attributes") ≡ false → IsPlain Word text
word-plain text isnt = record { no_mark = λ next. refl; no_group = isnt }

pub word-leads : {brackets : List Bool} (text : List ℕ) (tokens rest : List Lexeme) → bytes_eq text (codes "attributes") ≡ false → word text tokens rest → Leads brackets brackets tokens rest (a_word text)
word-leads text tokens rest isnt (l, is, of, same) = plain-passes Word text l tokens rest is (plain-of Word text l of same (word-plain text isnt)) (word-plain text isnt)

-- a word that isn't in the phrase, and one that the tokens lack
pub word-left-out : (brackets : List Bool) (text : List ℕ) (tokens rest : List Lexeme) → bytes_eq text (codes "attributes") ≡ false → word text tokens rest → IsShallow brackets tokens → IsShallow brackets rest
word-left-out brackets text tokens rest isnt (l, is, of, same) shallow = plain-leads brackets l tokens rest is (plain-of Word text l of same (word-plain text isnt)) shallow

pub word-added : {a b : List Bool} {tokens rest : List Lexeme} {q : Phrase} (text : List ℕ) → bytes_eq text (codes "attributes") ≡ false → Leads a b tokens rest q → Leads a b tokens rest (a_word text & q)
unfolding ◌>>◌
word-added {a} text isnt passing = record {
  leads = λ shallow. let (left, goes) = passing.leads shallow in (left, λ ts after (m, w, there). plain-phrase a Word text ts m (word-plain text isnt) w ∙ goes m after there);
}

-- a kind of token that is no word and no mark
abbrev pub IsQuiet : TokenKind → Type 0
IsQuiet kind = (text : List ℕ) → IsPlain kind text

pub token-leads : {brackets : List Bool} (kind : TokenKind) (test : Lexeme → Type 0) (text : List ℕ) (tokens rest : List Lexeme) → IsQuiet kind → token kind test tokens rest → Leads brackets brackets tokens rest (Solid kind text)
token-leads kind test text tokens rest quiet (l, is, of, holds) = plain-passes kind text l tokens rest is (plain-of kind l.text l of refl (quiet l.text)) (quiet text)

pub token-left-out : (brackets : List Bool) (kind : TokenKind) (test : Lexeme → Type 0) (tokens rest : List Lexeme) → IsQuiet kind → token kind test tokens rest → IsShallow brackets tokens → IsShallow brackets rest
token-left-out brackets kind test tokens rest quiet (l, is, of, holds) shallow = plain-leads brackets l tokens rest is (plain-of kind l.text l of refl (quiet l.text)) shallow

-- what is left of what leads on
pub left-of : {a b : List Bool} {tokens rest : List Lexeme} {p : Phrase} → Leads a b tokens rest p → IsShallow a tokens → IsShallow b rest
left-of passing shallow = (passing.leads shallow).0

-- the mark that tokens begin with
pub token-mark : (kind : TokenKind) (test : Lexeme → Type 0) (tokens rest : List Lexeme) → ((text : List ℕ) → mark_code kind text ≡ 0) → token kind test tokens rest → first_mark tokens ≡ 0
token-mark kind test tokens rest none (l, is, of, holds) = ap first_mark is ∙ (ap (λ k. mark_code k l.text) of ∙ none l.text)

pub mark-mark : (code : ℕ) (tokens rest : List Lexeme) → mark code tokens rest → first_mark tokens ≡ code
mark-mark code tokens rest (l, is, of, same) = ap first_mark is ∙ ap₂ (λ k t. mark_code k t) of same

-- A phrase of tokens that are no brackets, which others lack
pub record IsAdded (phrase : Phrase) : Type 0 where
  pub passed : (brackets : List Bool) (ts after : List Lexeme) → spelled phrase ts after → deep brackets ts ≡ deep brackets after

pub added : {a b : List Bool} {tokens rest : List Lexeme} {p q : Phrase} → IsAdded p → Leads a b tokens rest q → Leads a b tokens rest (p & q)
unfolding ◌>>◌
added {a} is passing = record {
  leads = λ shallow. let (left, goes) = passing.leads shallow in (left, λ ts after (m, here, there). is.passed a ts m here ∙ goes m after there);
}

pub empty-added : IsAdded Empty
empty-added = record { passed = λ brackets ts after same. ap (deep brackets) same }

pub gap-added : (byte : ℕ) → IsAdded (Gap byte)
gap-added byte = record { passed = λ brackets ts after same. ap (deep brackets) same }

pub solid-added : (kind : TokenKind) (text : List ℕ) → IsPlain kind text → IsAdded (Solid kind text)
solid-added kind text plain = record { passed = λ brackets ts after is. plain-phrase brackets kind text ts after plain is }

pub mark-added : (code : ℕ) → ((next : ℕ) → bracket_of code next ≡ Plain) → IsAdded (Mark code)
mark-added code none = record { passed = λ brackets ts after (k, at, kind, text). ap (deep brackets) at ∙ plain-turn brackets k after (mark-plain code k none kind text) }

pub both-added : {p q : Phrase} → IsAdded p → IsAdded q → IsAdded (p & q)
unfolding ◌>>◌
both-added one two = record { passed = λ brackets ts after (m, here, there). one.passed brackets ts m here ∙ two.passed brackets m after there }

-- braces, 123 and 125, outside all brackets, around tokens that are no brackets
pub braced-passes : {p : Phrase} → IsAdded p → (ts after : List Lexeme) → spelled (Mark 123 & p & Mark 125) ts after → deep [] ts ≡ deep [] after
unfolding ◌>>◌
braced-passes inside ts after (m, (l, is, of, same), (k, there, (l', is', of', same'))) =
    ap (deep []) is ∙ (opening-turn [] true 123 l m of same refl refl ∙ (inside.passed (true ∷ []) m k there ∙ (ap (deep (true ∷ [])) is' ∙ closing-turn [] true 125 l' after (λ next. refl) of' same')))
