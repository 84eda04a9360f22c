-- What tokens are refused for stands up to the token at the place, and what a production eats it eats whatever stands far enough behind.
use Rattle.std.proofs.Common.{◌≡◌, ℕ, zero, suc, ◌<◌, List, [], ◌∷◌, ◌++◌, append_assoc, length, refl, sym, ap, ◌∙◌, subst, arith}
use Rattle.ll_tokens.specs.declared.kinds.TokenKind.{TokenKind}
use Rattle.ll_tokens.specs.declared.kinds.TokenKind.TheVariants.{Punct}
use Rattle.ll_tokens.specs.Tokens.{Lexeme}
use Rattle.ll_parser.specs.declared.refusal.Refusal.{Refusal}
use Rattle.ll_parser.specs.Productions.{Production, mark, token}
use Rattle.ll_parser.specs.Reading.{DerivesNone, EndsNowhere}
use Rattle.ll_parser.specs.Spaces.{IsUnexpected}
use Rattle.ll_parser.proofs.TokenFacts.{same_first, token_nowhere_in_nil}
use Rattle.ll_operands.specs.Parts.{Begins, Part, Stops}

-- both lists are empty, or their first tokens are the same
abbrev pub SameFirst : List Lexeme → List Lexeme → Type 0
SameFirst [] [] = Unit {0}
SameFirst [] (y ∷ ys) = ⊥
SameFirst (x ∷ xs) [] = ⊥
SameFirst (x ∷ xs) (y ∷ ys) = x ≡ y

-- a comma, 44
abbrev pub IsComma : Lexeme → Type 0
IsComma x = (x.kind ≡ Punct) × (x.text ≡ 44 ∷ [])

-- the same, and behind a comma so are the second tokens
abbrev pub SameBehindComma : List Lexeme → List Lexeme → Type 0
SameBehindComma [] [] = Unit {0}
SameBehindComma [] (y ∷ ys) = ⊥
SameBehindComma (x ∷ xs) [] = ⊥
SameBehindComma (x ∷ xs) (y ∷ ys) = (x ≡ y) × (IsComma x → SameFirst xs ys)

-- how far the end of a production is seen: at one token, or behind a comma at the next one too
pub data Sight : Type 0 where
  one : Sight
  two : Sight

abbrev pub Same : Sight → List Lexeme → List Lexeme → Type 0
Same one = SameFirst
Same two = SameBehindComma

first_behind : (front a b : List Lexeme) → SameFirst a b → SameFirst (front ++ a) (front ++ b)
first_behind [] a b same = same
first_behind (x ∷ front) a b same = refl

pub first_back : (a b : List Lexeme) → SameFirst a b → SameFirst b a
first_back [] [] same = tt
first_back [] (y ∷ ys) same = same
first_back (x ∷ xs) [] same = same
first_back (x ∷ xs) (y ∷ ys) same = sym same

pub one_of_two : (a b : List Lexeme) → SameBehindComma a b → SameFirst a b
one_of_two [] [] same = tt
one_of_two [] (y ∷ ys) same = same
one_of_two (x ∷ xs) [] same = same
one_of_two (x ∷ xs) (y ∷ ys) same = same.0

two_behind : (front a b : List Lexeme) → SameBehindComma a b → SameBehindComma (front ++ a) (front ++ b)
two_behind [] a b same = same
two_behind (x ∷ front) a b same = (refl, λ comma. first_behind front a b (one_of_two a b same))

pub two_back : (a b : List Lexeme) → SameBehindComma a b → SameBehindComma b a
two_back [] [] same = tt
two_back [] (y ∷ ys) same = same
two_back (x ∷ xs) [] same = same
two_back (x ∷ xs) (y ∷ ys) same = (sym same.0, λ comma. first_back xs ys (same.1 (subst IsComma (sym same.0) comma)))

pub same_behind : (sight : Sight) (front a b : List Lexeme) → Same sight a b → Same sight (front ++ a) (front ++ b)
same_behind one = first_behind
same_behind two = two_behind

pub same_back : (sight : Sight) (a b : List Lexeme) → Same sight a b → Same sight b a
same_back one = first_back
same_back two = two_back

pub same_one : (sight : Sight) (a b : List Lexeme) → Same sight a b → SameFirst a b
same_one one a b same = same
same_one two a b same = one_of_two a b same

-- what is eaten, which is eaten before any other tokens that are the same in sight
pub record Kept (sight : Sight) (p : Production) (tokens rest : List Lexeme) : Type 0 where
  pub eaten : List Lexeme
  pub are : tokens ≡ eaten ++ rest
  pub still : (other : List Lexeme) → Same sight rest other → p (eaten ++ other) other

pub record Keeps (sight : Sight) (p : Production) : Type 0 where
  pub keeps : (tokens rest : List Lexeme) → p tokens rest → Kept sight p tokens rest

-- the same under another form
pub kept_as : {sight : Sight} {from to : Production} {tokens rest : List Lexeme} → Kept sight from tokens rest → ((ts other : List Lexeme) → Same sight rest other → from ts other → to ts other) → Kept sight to tokens rest
kept_as kept becomes = record { eaten = kept.eaten; are = kept.are; still = λ other same. becomes _ other same (kept.still other same) }

-- a refusal at a token, which is told whatever stands behind that
pub record Settled (stops : Stops) (tokens : List Lexeme) (refusal : Refusal) : Type 0 where
  pub front : List Lexeme
  pub at : Lexeme
  pub behind : List Lexeme
  pub are : tokens ≡ front ++ at ∷ behind
  pub place : refusal.left ≡ suc (length behind)
  pub still : (other : List Lexeme) → stops (front ++ at ∷ other) (record { rule = refusal.rule; left = suc (length other) })

abbrev pub Settles : Stops → Type 0
Settles stops = (tokens : List Lexeme) (refusal : Refusal) → stops tokens refusal → 0 < refusal.left → Settled stops tokens refusal

-- both of a part
pub record IsLocal (sight : Sight) (p : Part) : Type 0 where
  pub keeps : Keeps sight p.begins
  pub settles : Settles p.stops

-- whether the tokens begin so is seen
abbrev pub Sees : Sight → (List Lexeme → Type 0) → Type 0
Sees sight begins = (a b : List Lexeme) → Same sight a b → begins a → begins b

pub sees_token : (kind : TokenKind) (test : Lexeme → Type 0) → Sees one (Begins (token kind test))
sees_token kind test [] b same (rest, d) = absurd (token_nowhere_in_nil kind test [] refl rest d)
sees_token kind test (x ∷ xs) [] same d = absurd same
sees_token kind test (x ∷ xs) (y ∷ ys) same (rest, (l, is, k, t)) =
    let first : x ≡ l = same_first x l xs rest is in
    (ys, (l, ap (λ z. z ∷ ys) (sym same ∙ first), k, t))

pub sees_at : (sight : Sight) (begins : List Lexeme → Type 0) → Sees one begins → Sees sight begins
sees_at sight begins sees a b same = sees a b (same_one sight a b same)

pub sees_nowhere : (sight : Sight) (p : Production) → Sees sight (Begins p) → Sees sight (EndsNowhere p)
sees_nowhere sight p sees a b same nowhere rest d = let found = sees b a (same_back sight a b same) (rest, d) in nowhere found.0 found.1

-- none of several productions is there
pub sees_none : {A : Type 0} (item : A → Production) → ((x : A) → Sees one (Begins (item x))) → Sees one (DerivesNone item)
sees_none item sees a b same none x rest d = sees_nowhere one (item x) (sees x) a b same (none x) rest d

-- a refusal at the first token
module _ (none : List Lexeme → Type 0) (rule : List Lexeme → ℕ) (sees : Sees one none) (ruled : (l : Lexeme) (a b : List Lexeme) → rule (l ∷ a) ≡ rule (l ∷ b)) where
  pub settled_first : Settles (λ tokens refusal. none tokens × (refusal ≡ record { rule = rule tokens; left = length tokens }))
  settled_first [] refusal (nowhere, is) less = let end : refusal.left ≡ zero = ap (λ (r : Refusal). r.left) is in absurd (omega arith)
  settled_first (l ∷ ls) refusal (nowhere, is) less = record {
    front = [];
    at = l;
    behind = ls;
    are = refl;
    place = ap (λ (r : Refusal). r.left) is;
    still =
        λ other. (
          sees (l ∷ ls) (l ∷ other) refl nowhere,
          ap (λ (n : ℕ). record { rule = n; left = suc (length other) })
              (ap (λ (r : Refusal). r.rule) is ∙ ruled l ls other),
        );
  }

pub unexpected_settles : (p : Production) → Sees one (Begins p) → Settles (IsUnexpected p)
unexpected_settles p sees = settled_first (EndsNowhere p) (λ tokens. 3) (sees_nowhere one p sees) (λ l a b. refl)

-- the tokens up to the place are the same
pub reached : {stops : Stops} {tokens : List Lexeme} {refusal : Refusal} (s : Settled stops tokens refusal) (other : List Lexeme) → SameFirst tokens (s.front ++ s.at ∷ other)
reached s other = subst (λ ts. SameFirst ts (s.front ++ s.at ∷ other)) (sym s.are) (first_behind s.front (s.at ∷ s.behind) (s.at ∷ other) refl)

-- one refusal is another one
pub settled_seen : {from to : Stops} {tokens : List Lexeme} {refusal : Refusal} (s : Settled from tokens refusal) → ((other : List Lexeme) (r : Refusal) → from (s.front ++ s.at ∷ other) r → to (s.front ++ s.at ∷ other) r) → Settled to tokens refusal
settled_seen s becomes = record { front = s.front; at = s.at; behind = s.behind; are = s.are; place = s.place; still = λ other. becomes other _ (s.still other) }

pub settled_as : {from to : Stops} {tokens : List Lexeme} {refusal : Refusal} → ((ts : List Lexeme) (r : Refusal) → from ts r → to ts r) → Settled from tokens refusal → Settled to tokens refusal
settled_as becomes s = settled_seen s (λ other. becomes _)

-- a refusal beside what is seen at the first token
pub settled_beside : {stops : Stops} {tokens : List Lexeme} {refusal : Refusal} (begins : List Lexeme → Type 0) → Sees one begins → begins tokens → Settled stops tokens refusal → Settled (λ ts r. begins ts × stops ts r) tokens refusal
settled_beside {stops} {tokens} begins sees here s = settled_seen s (λ other r d. (sees tokens (s.front ++ s.at ∷ other) (reached s other) here, d))

-- a refusal behind what is eaten
abbrev pub Behind : Production → Stops → Stops
Behind p stops tokens refusal = (middle : List Lexeme) × p tokens middle × stops middle refusal

module _ (sight : Sight) (p : Production) (stops : Stops) (tokens middle : List Lexeme) (refusal : Refusal) (kept : Kept sight p tokens middle) where
  pub settled_when : (s : Settled stops middle refusal) → ((other : List Lexeme) → Same sight middle (s.front ++ s.at ∷ other)) → Settled (Behind p stops) tokens refusal
  settled_when s sees = record {
    front = kept.eaten ++ s.front;
    at = s.at;
    behind = s.behind;
    are = kept.are ∙ ap (λ ts. kept.eaten ++ ts) s.are ∙ sym (append_assoc kept.eaten s.front (s.at ∷ s.behind));
    place = s.place;
    still = λ other.
        subst (λ ts. Behind p stops ts (record { rule = refusal.rule; left = suc (length other) })) (sym (append_assoc kept.eaten s.front (s.at ∷ other)))
        (s.front ++ s.at ∷ other, kept.still (s.front ++ s.at ∷ other) (sees other), s.still other);
  }

pub settled_behind : {p : Production} {stops : Stops} {tokens middle : List Lexeme} {refusal : Refusal} → Keeps one p → p tokens middle → Settled stops middle refusal → Settled (Behind p stops) tokens refusal
settled_behind {p} {stops} {tokens} {middle} {refusal} k d s = settled_when one p stops tokens middle refusal (k.keeps tokens middle d) s (reached s)

pub keeps_token : (kind : TokenKind) (test : Lexeme → Type 0) → Keeps one (token kind test)
keeps_token kind test = record { keeps = λ tokens rest d. record { eaten = d.0 ∷ []; are = d.1; still = λ other same. (d.0, refl, d.2, d.3) } }

pub behind_token : {kind : TokenKind} {test : Lexeme → Type 0} {stops : Stops} {tokens middle : List Lexeme} {refusal : Refusal} → token kind test tokens middle → Settled stops middle refusal → Settled (Behind (token kind test) stops) tokens refusal
behind_token {kind} {test} d s = settled_behind (keeps_token kind test) d s

-- a mark that isn't there
pub sees_no_mark : (code : ℕ) → Sees one (EndsNowhere (mark code))
sees_no_mark code = sees_nowhere one (mark code) (sees_token _ _)

pub beside_no_mark : {stops : Stops} {tokens : List Lexeme} {refusal : Refusal} (code : ℕ) → EndsNowhere (mark code) tokens → Settled stops tokens refusal → Settled (λ ts r. EndsNowhere (mark code) ts × stops ts r) tokens refusal
beside_no_mark code none s = settled_beside (EndsNowhere (mark code)) (sees_no_mark code) none s
