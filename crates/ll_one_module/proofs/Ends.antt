-- What stands behind a comma, what is left out or isn't kept, and words that a table tells.
use Rattle.std.proofs.Common.{◌≡◌, ℕ, zero, Bool, true, false, if◌then◌else◌, ◌⊎◌, List, [], ◌∷◌, drop, bytes_eq, refl, ap, ◌∙◌, inl, inr}
use Rattle.ll_tokens.specs.declared.kinds.TokenKind.{TokenKind}
use Rattle.ll_tokens.specs.Tokens.{Lexeme}
use Rattle.ll_parser.specs.Productions.{Production, nothing, ◌>>◌, mark}
use Rattle.ll_one_module.proofs.Readers.{Ahead, Reader, Test, begins, done, to, skip, choose, Reads, Leads, Opens, Weaker, Found, to-found, none}
use Rattle.ll_one_module.proofs.Fronts.{is_mark, opens-mark}
use Rattle.ll_one_module.proofs.Lists.{or-reads}

-- what a table has for a word
abbrev pub look_up : {S : Type 0} → List (List ℕ × S) → S → List ℕ → S
look_up [] other text = other
look_up (row ∷ rows) other text = if bytes_eq text row.0 then row.1 else look_up rows other text

-- a comma, 44, and a token that passes a test
unfoldable pub behind_comma : Test → Ahead
behind_comma test tokens = if begins (is_mark 44) tokens then begins test (drop 1 tokens) else false

comma-then : (test : Test) (tokens behind : List Lexeme) → mark 44 tokens behind → behind_comma test tokens ≡ begins test behind
unfolding behind_comma
comma-then test tokens behind d =
    ap (λ b. if b then begins test (drop 1 tokens) else false) ((opens-mark 44 (is_mark 44) refl).opens tokens behind d) ∙ ap (λ (ts : List Lexeme). begins test (drop 1 ts)) d.1

pub lead-behind-comma : {u : Ahead} {q : Production} (test : Test) → Leads u q (begins test) → Leads u (mark 44 >> q) (behind_comma test)
unfolding ◌>>◌
lead-behind-comma {u} {q} test one = record { leads = λ tokens rest d stop. comma-then test tokens d.0 d.1 ∙ one.leads d.0 rest d.2 stop }

pub opens-behind-comma : {q : Production} (test : Test) → Opens q (begins test) → Opens (mark 44 >> q) (behind_comma test)
unfolding ◌>>◌
opens-behind-comma {q} test one = record { opens = λ tokens rest d. comma-then test tokens d.0 d.1 ∙ one.opens d.0 rest d.2 }

pub no-comma : (test : Test) → Weaker (begins (is_mark 44)) (behind_comma test)
unfolding behind_comma
no-comma test tokens e = ap (λ b. if b then begins test (drop 1 tokens) else false) e

-- what isn't kept
unfoldable pub dropped : {X : Type 0} → Reader X → Reader ℕ
dropped r = to (λ x. zero) r

pub some-reads : {A X : Type 0} {u : Ahead} {r : Reader X} {g : A → X} (p : A → Production) → ((a : A) → Reads u (p a) r (g a)) → Reads u (λ tokens rest. (a : A) × p a tokens rest) (dropped r) zero
unfolding dropped
some-reads {A} {X} {u} {r} {g} p one = record { reads = λ tokens rest d stop. to-found (λ x. zero) r (g d.0) tokens rest ((one d.0).reads tokens rest d.1 stop) }

pub some-leads : {A : Type 0} {u test : Ahead} (p : A → Production) → ((a : A) → Leads u (p a) test) → Leads u (λ tokens rest. (a : A) × p a tokens rest) test
some-leads p one = record { leads = λ tokens rest d stop. (one d.0).leads tokens rest d.1 stop }

-- a token that may be left out
unfoldable pub passed : Ahead → Reader ℕ
passed test = choose test (skip (done zero)) (done zero)

pub passed-reads : {u : Ahead} (p : Production) (test : Ahead) → Opens p test → Reads u p (skip (done zero)) zero → Weaker u test → Reads u (λ tokens rest. p tokens rest ⊎ tokens ≡ rest) (passed test) zero
unfolding passed
passed-reads p test opens one weaker = or-reads p nothing test opens one (record { leads = λ tokens rest same stop. ap test same ∙ weaker rest stop }) none

pub passed-leads : {u test : Ahead} (p : Production) → Leads u p test → Weaker u test → Leads u (λ tokens rest. p tokens rest ⊎ tokens ≡ rest) test
passed-leads {u} {test} p one weaker = record { leads = λ tokens rest d stop. cases tokens rest d stop }
  where
    cases : (tokens rest : List Lexeme) → p tokens rest ⊎ tokens ≡ rest → u rest ≡ false → test tokens ≡ false
    cases tokens rest (inl d) stop = one.leads tokens rest d stop
    cases tokens rest (inr same) stop = ap test same ∙ weaker rest stop

-- either of two productions that one reader reads
pub both-read : {X : Type 0} {u : Ahead} {r : Reader X} {x : X} (p q : Production) → Reads u p r x → Reads u q r x → Reads u (λ tokens rest. p tokens rest ⊎ q tokens rest) r x
both-read {X} {u} {r} {x} p q one two = record { reads = λ tokens rest d stop. cases tokens rest d stop }
  where
    cases : (tokens rest : List Lexeme) → p tokens rest ⊎ q tokens rest → u rest ≡ false → Found r tokens x rest
    cases tokens rest (inl d) stop = one.reads tokens rest d stop
    cases tokens rest (inr d) stop = two.reads tokens rest d stop

pub with-nothing : {X : Type 0} {u : Ahead} {r : Reader X} {x : X} (p : Production) → Reads u (p >> nothing) r x → Reads u p r x
unfolding ◌>>◌
with-nothing p one = record { reads = λ tokens rest d stop. one.reads tokens rest (rest, d, refl) stop }

begins-less : (t u : Test) → ((kind : TokenKind) (text : List ℕ) → t kind text ≡ false → u kind text ≡ false) → Weaker (begins t) (begins u)
unfolding begins
begins-less t u less [] e = refl
begins-less t u less (l ∷ ls) e = less l.kind l.text e

pub behind-less : (t u : Test) → ((kind : TokenKind) (text : List ℕ) → t kind text ≡ false → u kind text ≡ false) → Weaker (behind_comma t) (behind_comma u)
unfolding behind_comma
behind-less t u less tokens e = cases (begins (is_mark 44) tokens) e
  where
    cases : (b : Bool) → (if b then begins t (drop 1 tokens) else false) ≡ false → (if b then begins u (drop 1 tokens) else false) ≡ false
    cases true e = begins-less t u less (drop 1 tokens) e
    cases false e = refl
