-- Readers: a value and the tokens that are left as functions of tokens, and when such a function gives what a production derives.
use Rattle.std.proofs.Common.{◌≡◌, ℕ, zero, suc, ◌+◌, ◌≤◌, Bool, true, false, if◌then◌else◌, List, [], ◌∷◌, drop, refl, sym, ap, ◌∙◌, subst, arith}
use Rattle.ll_tokens.specs.declared.kinds.TokenKind.{TokenKind}
use Rattle.ll_tokens.specs.declared.kinds.TokenKind.TheVariants.{Punct}
use Rattle.ll_tokens.specs.Tokens.{Lexeme}
use Rattle.ll_parser.specs.Productions.{Production, nothing, ◌>>◌, token}

-- the number bounds how often a reader goes on; where it is great enough, what is read doesn't depend on it
abbrev pub Reader : Type 0 → Type 0
Reader X = ℕ → List Lexeme → X × List Lexeme

-- a test of the tokens that are ahead
abbrev pub Ahead : Type 0
Ahead = List Lexeme → Bool

abbrev pub never : Ahead
never tokens = false

-- a test of the first token
abbrev pub Test : Type 0
Test = TokenKind → List ℕ → Bool

unfoldable pub begins : Test → Ahead
begins test [] = false
begins test (lexeme ∷ tokens) = test lexeme.kind lexeme.text

unfoldable pub done : {X : Type 0} → X → Reader X
done x n tokens = (x, tokens)

unfoldable pub bind : {X Y : Type 0} → Reader X → (X → Reader Y) → Reader Y
bind r k n tokens = k (r n tokens).0 n (r n tokens).1

unfoldable pub to : {X Y : Type 0} → (X → Y) → Reader X → Reader Y
to f r n tokens = (f (r n tokens).0, (r n tokens).1)

-- a token that isn't looked at
unfoldable pub skip : {X : Type 0} → Reader X → Reader X
skip r n tokens = r n (drop 1 tokens)

abbrev pub first_of : List Lexeme → Lexeme
first_of [] = record { kind = Punct; text = []; byte = 0 }
first_of (lexeme ∷ tokens) = lexeme

unfoldable pub first : {X : Type 0} → (Lexeme → X) → Reader X
first f n tokens = (f (first_of tokens), drop 1 tokens)

unfoldable pub choose : {X : Type 0} → Ahead → Reader X → Reader X → Reader X
choose test r s n tokens = if test tokens then r n tokens else s n tokens

unfoldable pub loop : {X : Type 0} → Ahead → (List Lexeme → X × List Lexeme) → ℕ → List Lexeme → List X × List Lexeme
loop test item zero tokens = ([], tokens)
loop test item (suc n) tokens =
    if test tokens then ((item tokens).0 ∷ (loop test item n (item tokens).1).0, (loop test item n (item tokens).1).1) else ([], tokens)

-- as many items as the test says that there are
unfoldable pub many : {X : Type 0} → Ahead → Reader X → Reader (List X)
many test r n tokens = loop test (r n) n tokens

-- the reader gives the value and leaves the rest, for each number that is great enough
pub record Found {X : Type 0} (r : Reader X) (tokens : List Lexeme) (x : X) (rest : List Lexeme) : Type 0 where
  pub fuel : ℕ
  pub is : (n : ℕ) → fuel ≤ n → r n tokens ≡ (x, rest)

-- the reader gives the value that the production derives, where what is left doesn't pass the test
pub record Reads {X : Type 0} (stop : Ahead) (p : Production) (r : Reader X) (x : X) : Type 0 where
  pub reads : (tokens rest : List Lexeme) → p tokens rest → stop rest ≡ false → Found r tokens x rest

-- what the production derives doesn't pass a test, where what is left doesn't pass another
pub record Leads (stop : Ahead) (p : Production) (test : Ahead) : Type 0 where
  pub leads : (tokens rest : List Lexeme) → p tokens rest → stop rest ≡ false → test tokens ≡ false

-- what the production derives passes a test
pub record Opens (p : Production) (test : Ahead) : Type 0 where
  pub opens : (tokens rest : List Lexeme) → p tokens rest → test tokens ≡ true

abbrev pub Weaker : Ahead → Ahead → Type 0
Weaker stop test = (tokens : List Lexeme) → stop tokens ≡ false → test tokens ≡ false

module _ {X : Type 0} where
  pub done-found : (x : X) (tokens : List Lexeme) → Found (done x) tokens x tokens
  unfolding done
  done-found x tokens = record { fuel = 0; is = λ n le. refl }

  pub skip-found : (r : Reader X) (x : X) (l : Lexeme) (tokens rest : List Lexeme) → Found r tokens x rest → Found (skip r) (l ∷ tokens) x rest
  unfolding skip
  skip-found r x l tokens rest f = record { fuel = f.fuel; is = λ n le. f.is n le }

  pub choose-true : (test : Ahead) (r s : Reader X) (x : X) (tokens rest : List Lexeme) → test tokens ≡ true → Found r tokens x rest → Found (choose test r s) tokens x rest
  unfolding choose
  choose-true test r s x tokens rest e f = record { fuel = f.fuel; is = λ n le. ap (λ b. if b then r n tokens else s n tokens) e ∙ f.is n le }

  pub choose-false : (test : Ahead) (r s : Reader X) (x : X) (tokens rest : List Lexeme) → test tokens ≡ false → Found s tokens x rest → Found (choose test r s) tokens x rest
  unfolding choose
  choose-false test r s x tokens rest e f = record { fuel = f.fuel; is = λ n le. ap (λ b. if b then r n tokens else s n tokens) e ∙ f.is n le }

pub bind-found : {X Y : Type 0} (r : Reader X) (k : X → Reader Y) (x : X) (y : Y) (tokens middle rest : List Lexeme) → Found r tokens x middle → Found (k x) middle y rest → Found (bind r k) tokens y rest
unfolding bind
bind-found {X} {Y} r k x y tokens middle rest f g = record {
  fuel = f.fuel + g.fuel;
  is = λ n le.
      let a : r n tokens ≡ (x, middle) = f.is n (omega arith) in
      let b : k x n middle ≡ (y, rest) = g.is n (omega arith) in
      ap (λ (p : X × List Lexeme). k p.0 n p.1) a ∙ b;
}

pub to-found : {X Y : Type 0} (f : X → Y) (r : Reader X) (x : X) (tokens rest : List Lexeme) → Found r tokens x rest → Found (to f r) tokens (f x) rest
unfolding to
to-found {X} {Y} f r x tokens rest found = record {
  fuel = found.fuel;
  is = λ n le. ap (λ (p : X × List Lexeme). let q : Y × List Lexeme = (f p.0, p.1) in q) (found.is n le);
}

-- productions one behind another
pub seq : {X Y : Type 0} {s u : Ahead} {p q : Production} {r : Reader X} {x : X} {y : Y} (k : X → Reader Y) → Reads s p r x → Leads u q s → Reads u q (k x) y → Reads u (p >> q) (bind r k) y
unfolding ◌>>◌
seq {X} {Y} {s} {u} {p} {q} {r} {x} {y} k one lead two = record {
  reads = λ tokens rest d stop. bind-found r k x y tokens d.0 rest (one.reads tokens d.0 d.1 (lead.leads d.0 rest d.2 stop)) (two.reads d.0 rest d.2 stop);
}

-- the same behind what is read whatever follows
pub then' : {X Y : Type 0} {u : Ahead} {p q : Production} {r : Reader X} {x : X} {y : Y} (k : X → Reader Y) → Reads never p r x → Reads u q (k x) y → Reads u (p >> q) (bind r k) y
then' k one two = seq k one (record { leads = λ tokens rest d stop. refl }) two

-- a token that isn't looked at
pub skipped : {X : Type 0} {u : Ahead} {q : Production} {r : Reader X} {x : X} (kind : TokenKind) (test : Lexeme → Type 0) → Reads u q r x → Reads u (token kind test >> q) (skip r) x
unfolding ◌>>◌ skip
skipped {X} {u} {q} {r} {x} kind test two = record {
  reads = λ tokens rest d stop.
      let f : Found r d.0 x rest = two.reads d.0 rest d.2 stop in
      subst (λ ts. Found (skip r) ts x rest) (sym d.1.1) (skip-found r x d.1.0 d.0 rest f);
}

pub last : {X : Type 0} {u : Ahead} {x : X} (kind : TokenKind) (test : Lexeme → Type 0) → Reads u (token kind test) (skip (done x)) x
last {X} {u} {x} kind test = record {
  reads = λ tokens rest d stop. subst (λ ts. Found (skip (done x)) ts x rest) (sym d.1) (skip-found (done x) x d.0 rest rest (done-found x rest));
}

pub none : {X : Type 0} {u : Ahead} {x : X} → Reads u nothing (done x) x
none {X} {u} {x} = record { reads = λ tokens rest d stop. subst (λ ts. Found (done x) ts x rest) (sym d) (done-found x rest) }

pub made : {X Y : Type 0} {u : Ahead} {p : Production} {r : Reader X} {x : X} (f : X → Y) → Reads u p r x → Reads u p (to f r) (f x)
made {X} {Y} {u} {p} {r} {x} f one = record { reads = λ tokens rest d stop. to-found f r x tokens rest (one.reads tokens rest d stop) }

pub at : {X : Type 0} {u : Ahead} {p : Production} {r : Reader X} {x y : X} → x ≡ y → Reads u p r x → Reads u p r y
at {X} {u} {p} {r} {x} {y} e one = subst (λ z. Reads u p r z) e one

pub stopped : {X : Type 0} {s u : Ahead} {p : Production} {r : Reader X} {x : X} → Weaker u s → Reads s p r x → Reads u p r x
stopped weaker one = record { reads = λ tokens rest d stop. one.reads tokens rest d (weaker rest stop) }

-- a token of which something is read
pub first-reads : {X : Type 0} {u : Ahead} {x : X} (f : Lexeme → X) (kind : TokenKind) (test : Lexeme → Type 0) → ((l : Lexeme) → l.kind ≡ kind → test l → f l ≡ x) → Reads u (token kind test) (first f) x
unfolding first
first-reads {X} {u} {x} f kind test same = record {
  reads = λ tokens rest d stop.
      let e : f d.0 ≡ x = same d.0 d.2 d.3 in
      record {
        fuel = 0;
        is = λ n le. ap (λ (ts : List Lexeme). let q : X × List Lexeme = (f (first_of ts), drop 1 ts) in q) d.1 ∙ ap (λ (z : X). let q : X × List Lexeme = (z, rest) in q) e;
      };
}
