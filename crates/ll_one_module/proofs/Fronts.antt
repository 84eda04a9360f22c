-- What productions begin with.
use Rattle.std.proofs.Common.{◌≡◌, ℕ, ◌⊎◌, Bool, true, false, if◌then◌else◌, ◌&&◌, true≢false, List, [], ◌∷◌, Option, None, Some, bytes_eq, refl, sym, ap, ◌∙◌, inl, inr, nat_eq}
use Rattle.std.specs.List.{list_all, list_any}
use Rattle.std.specs.Char.{is_ascii_digit}
use Rattle.ll_tokens.specs.declared.kinds.TokenKind.{TokenKind}
use Rattle.ll_tokens.specs.declared.kinds.TokenKind.TheVariants.{Word, Punct}
use Rattle.ll_tokens.specs.Tokens.{Lexeme}
use Rattle.ll_parser.specs.Productions.{Production, nothing, ◌>>◌, token, word, mark, each, if_there}
use Rattle.ll_one_module.proofs.Readers.{Ahead, Test, never, begins, Leads, Opens, Weaker}

-- either of two tests
abbrev pub either : Test → Test → Test
either t u kind text = if t kind text then true else u kind text

-- a mark by its code
abbrev pub is_mark : ℕ → Test
is_mark code Punct text = bytes_eq text (code ∷ [])
is_mark code _ text = false

module _ {u : Ahead} where
  pub lead-then : {s : Ahead} {p q : Production} {test : Ahead} → Leads s p test → Leads u q s → Leads u (p >> q) test
  unfolding ◌>>◌
  lead-then one two = record { leads = λ tokens rest d stop. one.leads tokens d.0 d.1 (two.leads d.0 rest d.2 stop) }

  pub lead-first : {p : Production} {test : Ahead} (q : Production) → Leads never p test → Leads u (p >> q) test
  unfolding ◌>>◌
  lead-first q one = record { leads = λ tokens rest d stop. one.leads tokens d.0 d.1 refl }

  pub lead-token : (kind : TokenKind) (wanted : Lexeme → Type 0) (t : Test) → ((l : Lexeme) → wanted l → t kind l.text ≡ false) → Leads u (token kind wanted) (begins t)
  unfolding begins
  lead-token kind wanted t fails = record {
    leads = λ tokens rest d stop. ap (begins t) d.1 ∙ ap (λ k. t k (d.0).text) d.2 ∙ fails d.0 d.3;
  }

  pub lead-kind : (kind : TokenKind) (wanted : Lexeme → Type 0) (t : Test) → ((text : List ℕ) → t kind text ≡ false) → Leads u (token kind wanted) (begins t)
  lead-kind kind wanted t fails = lead-token kind wanted t (λ l w. fails l.text)

  pub lead-mark : (code : ℕ) (t : Test) → t Punct (code ∷ []) ≡ false → Leads u (mark code) (begins t)
  lead-mark code t fails = lead-token Punct _ t (λ l w. ap (t Punct) w ∙ fails)

  pub lead-word : (text : List ℕ) (t : Test) → t Word text ≡ false → Leads u (word text) (begins t)
  lead-word text t fails = lead-token Word _ t (λ l w. ap (t Word) w ∙ fails)

  pub lead-or : {p q : Production} {test : Ahead} → Leads u p test → Leads u q test → Leads u (λ tokens rest. p tokens rest ⊎ q tokens rest) test
  lead-or {p} {q} {test} one two = record { leads = λ tokens rest d stop. cases tokens rest d stop }
    where
      cases : (tokens rest : List Lexeme) → p tokens rest ⊎ q tokens rest → u rest ≡ false → test tokens ≡ false
      cases tokens rest (inl d) stop = one.leads tokens rest d stop
      cases tokens rest (inr d) stop = two.leads tokens rest d stop

  pub lead-nothing : {test : Ahead} → Weaker u test → Leads u nothing test
  lead-nothing {test} weaker = record { leads = λ tokens rest same stop. ap test same ∙ weaker rest stop }

  pub lead-if-there : {A : Type 0} {item : A → Production} {test : Ahead} → Weaker u test → ((a : A) → Leads u (item a) test) → (o : Option A) → Leads u (if_there item o) test
  lead-if-there weaker one None = lead-nothing weaker
  lead-if-there weaker one (Some a) = one a

  pub lead-each : {A : Type 0} {item : A → Production} {test : Ahead} → Weaker u test → ((a : A) → Leads never (item a) test) → (all : List A) → Leads u (each item all) test
  lead-each weaker one [] = lead-nothing weaker
  lead-each weaker one (a ∷ more) = lead-first _ (one a)

pub opens-first : {p : Production} {test : Ahead} (q : Production) → Opens p test → Opens (p >> q) test
unfolding ◌>>◌
opens-first q one = record { opens = λ tokens rest d. one.opens tokens d.0 d.1 }

pub opens-token : (kind : TokenKind) (wanted : Lexeme → Type 0) (t : Test) → ((l : Lexeme) → wanted l → t kind l.text ≡ true) → Opens (token kind wanted) (begins t)
unfolding begins
opens-token kind wanted t passes = record { opens = λ tokens rest d. ap (begins t) d.1 ∙ ap (λ k. t k (d.0).text) d.2 ∙ passes d.0 d.3 }

pub opens-mark : (code : ℕ) (t : Test) → t Punct (code ∷ []) ≡ true → Opens (mark code) (begins t)
opens-mark code t passes = opens-token Punct _ t (λ l w. ap (t Punct) w ∙ passes)

pub opens-word : (text : List ℕ) (t : Test) → t Word text ≡ true → Opens (word text) (begins t)
opens-word text t passes = opens-token Word _ t (λ l w. ap (t Word) w ∙ passes)

pub opens-or : {test : Ahead} (p q : Production) → Opens p test → Opens q test → Opens (λ tokens rest. p tokens rest ⊎ q tokens rest) test
opens-or {test} p q one two = record { opens = λ tokens rest d. cases tokens rest d }
  where
    cases : (tokens rest : List Lexeme) → p tokens rest ⊎ q tokens rest → test tokens ≡ true
    cases tokens rest (inl d) = one.opens tokens rest d
    cases tokens rest (inr d) = two.opens tokens rest d

pub if-none : (a b : Bool) → (if a then true else b) ≡ false → (a ≡ false) × (b ≡ false)
if-none true b e = absurd (true≢false e)
if-none false b e = (refl, e)

pub either-left : (t u : Test) → Weaker (begins (either t u)) (begins t)
unfolding begins
either-left t u [] e = refl
either-left t u (l ∷ ls) e = (if-none _ _ e).0

pub either-right : (t u : Test) → Weaker (begins (either t u)) (begins u)
unfolding begins
either-right t u [] e = refl
either-right t u (l ∷ ls) e = (if-none _ _ e).1

-- a test that nothing passes that passes another
abbrev pub outside : Test → Test → Test
outside known t kind text = if known kind text then false else t kind text

pub lead-outside : {u : Ahead} {p : Production} (known t : Test) → Opens p (begins known) → Leads u p (begins (outside known t))
unfolding begins
lead-outside {u} {p} known t one = record { leads = λ tokens rest d stop. fails tokens (one.opens tokens rest d) }
  where
    fails : (tokens : List Lexeme) → begins known tokens ≡ true → begins (outside known t) tokens ≡ false
    fails [] e = refl
    fails (l ∷ ls) e = ap (λ b. if b then false else t l.kind l.text) e

-- `i`, 105, and digits
abbrev pub is_bits : List ℕ → Bool
is_bits [] = false
is_bits (letter ∷ []) = false
is_bits (letter ∷ digit ∷ digits) = nat_eq letter 105 && list_all is_ascii_digit (digit ∷ digits)

abbrev pub is_one_of : List (List ℕ) → List ℕ → Bool
is_one_of words text = list_any (bytes_eq text) words

if-other : (a b : Bool) → b ≡ true → (if a then true else b) ≡ true
if-other true b e = refl
if-other false b e = e

pub opens-left : {p : Production} (t u : Test) → Opens p (begins t) → Opens p (begins (either t u))
unfolding begins
opens-left {p} t u one = record { opens = λ tokens rest d. passes tokens (one.opens tokens rest d) }
  where
    passes : (tokens : List Lexeme) → begins t tokens ≡ true → begins (either t u) tokens ≡ true
    passes [] e = absurd (true≢false (sym e))
    passes (l ∷ ls) e = ap (λ b. if b then true else u l.kind l.text) e

pub opens-right : {p : Production} (t u : Test) → Opens p (begins u) → Opens p (begins (either t u))
unfolding begins
opens-right {p} t u one = record { opens = λ tokens rest d. passes tokens (one.opens tokens rest d) }
  where
    passes : (tokens : List Lexeme) → begins u tokens ≡ true → begins (either t u) tokens ≡ true
    passes [] e = absurd (true≢false (sym e))
    passes (l ∷ ls) e = if-other (t l.kind l.text) _ e

pub lead-either : {s : Ahead} {p : Production} (t u : Test) → Leads s p (begins t) → Leads s p (begins u) → Leads s p (begins (either t u))
unfolding begins
lead-either {s} {p} t u one two = record { leads = λ tokens rest d stop. fails tokens (one.leads tokens rest d stop) (two.leads tokens rest d stop) }
  where
    fails : (tokens : List Lexeme) → begins t tokens ≡ false → begins u tokens ≡ false → begins (either t u) tokens ≡ false
    fails [] e f = refl
    fails (l ∷ ls) e f = ap (λ b. if b then true else u l.kind l.text) e ∙ f
