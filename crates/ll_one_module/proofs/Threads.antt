-- Readers of lists whose items take a number and give the next one.
use Rattle.std.proofs.Common.{◌≡◌, ℕ, zero, suc, ◌+◌, ◌≤◌, Bool, true, false, if◌then◌else◌, List, [], ◌∷◌, refl, ap, ◌∙◌, arith}
use Rattle.ll_tokens.specs.Tokens.{Lexeme}
use Rattle.ll_one_module.proofs.Readers.{Ahead, Reader, Found}

module _ (X : Type 0) where
  abbrev Result : Type 0
  Result = (List X × ℕ) × List Lexeme

  unfoldable pub again : Bool → X → Result → ℕ → List Lexeme → Result
  again true x more next tokens = ((x ∷ [], next), tokens)
  again false x more next tokens = ((x ∷ more.0.0, more.0.1), more.1)

-- items while a test of what is ahead holds, up to one that is the last
unfoldable pub thread : {X : Type 0} → Ahead → (X → Bool) → (ℕ → List Lexeme → (X × ℕ) × List Lexeme) → ℕ → ℕ → List Lexeme → (List X × ℕ) × List Lexeme
thread goes is_last item zero next tokens = (([], next), tokens)
thread {X} goes is_last item (suc turns) next tokens =
    if goes tokens
    then again X (is_last (item next tokens).0.0) (item next tokens).0.0 (thread goes is_last item turns (item next tokens).0.1 (item next tokens).1) (item next tokens).0.1 (item next tokens).1
    else (([], next), tokens)

unfoldable pub threaded : {X : Type 0} → Ahead → (X → Bool) → (ℕ → Reader (X × ℕ)) → ℕ → Reader (List X × ℕ)
threaded goes is_last r next n tokens = thread goes is_last (λ m. r m n) n next tokens

pub record Threads {X : Type 0} (goes : Ahead) (is_last : X → Bool) (r : ℕ → Reader (X × ℕ)) (next : ℕ) (tokens : List Lexeme) (xs : List X) (after : ℕ) (rest : List Lexeme) : Type 0 where
  pub fuel : ℕ
  pub is : (n turns : ℕ) → fuel ≤ n → fuel ≤ turns → thread goes is_last (λ m. r m n) turns next tokens ≡ ((xs, after), rest)

pub threads-found : {X : Type 0} (goes : Ahead) (is_last : X → Bool) (r : ℕ → Reader (X × ℕ)) (next : ℕ) (tokens : List Lexeme) (xs : List X) (after : ℕ) (rest : List Lexeme) → Threads goes is_last r next tokens xs after rest → Found (threaded goes is_last r next) tokens (xs, after) rest
unfolding threaded
threads-found goes is_last r next tokens xs after rest f = record { fuel = f.fuel; is = λ n le. f.is n n le le }

thread-stops : {X : Type 0} (goes : Ahead) (is_last : X → Bool) (item : ℕ → List Lexeme → (X × ℕ) × List Lexeme) (turns next : ℕ) (tokens : List Lexeme) → goes tokens ≡ false → thread goes is_last item turns next tokens ≡ (([], next), tokens)
unfolding thread
thread-stops goes is_last item zero next tokens e = refl
thread-stops {X} goes is_last item (suc turns) next tokens e =
    ap (λ b. if b then again X (is_last (item next tokens).0.0) (item next tokens).0.0 (thread goes is_last item turns (item next tokens).0.1 (item next tokens).1) (item next tokens).0.1 (item next tokens).1
    else (let p : (List X × ℕ) × List Lexeme = (([], next), tokens) in p)) e

pub threads-none : {X : Type 0} (goes : Ahead) (is_last : X → Bool) (r : ℕ → Reader (X × ℕ)) (next : ℕ) (tokens : List Lexeme) → goes tokens ≡ false → Threads goes is_last r next tokens [] next tokens
threads-none goes is_last r next tokens e = record { fuel = 0; is = λ n turns le le'. thread-stops goes is_last (λ m. r m n) turns next tokens e }

thread-turns : {X : Type 0} (goes : Ahead) (is_last : X → Bool) (item : ℕ → List Lexeme → (X × ℕ) × List Lexeme) (turns next : ℕ) (tokens : List Lexeme) (x : X) (after : ℕ) (middle : List Lexeme) → goes tokens ≡ true → item next tokens ≡ ((x, after), middle) →
    thread goes is_last item (suc turns) next tokens ≡ again X (is_last x) x (thread goes is_last item turns after middle) after middle
unfolding thread
thread-turns {X} goes is_last item turns next tokens x after middle e is =
    ap (λ b. if b then again X (is_last (item next tokens).0.0) (item next tokens).0.0 (thread goes is_last item turns (item next tokens).0.1 (item next tokens).1) (item next tokens).0.1 (item next tokens).1
    else (let p : (List X × ℕ) × List Lexeme = (([], next), tokens) in p)) e
    ∙ ap (λ (q : (X × ℕ) × List Lexeme). again X (is_last q.0.0) q.0.0 (thread goes is_last item turns q.0.1 q.1) q.0.1 q.1) is

pub threads-last : {X : Type 0} (goes : Ahead) (is_last : X → Bool) (r : ℕ → Reader (X × ℕ)) (next : ℕ) (tokens : List Lexeme) (x : X) (after : ℕ) (rest : List Lexeme) → goes tokens ≡ true → is_last x ≡ true → Found (r next) tokens (x, after) rest → Threads goes is_last r next tokens (x ∷ []) after rest
unfolding again
threads-last {X} goes is_last r next tokens x after rest e ends f = record { fuel = suc f.fuel; is = cases }
  where
    cases : (n turns : ℕ) → suc f.fuel ≤ n → suc f.fuel ≤ turns → thread goes is_last (λ m. r m n) turns next tokens ≡ ((x ∷ [], after), rest)
    cases n zero le le' = absurd (omega arith)
    cases n (suc turns) le le' =
        thread-turns goes is_last (λ m. r m n) turns next tokens x after rest e (f.is n (omega arith)) ∙ ap (λ b. again X b x (thread goes is_last (λ m. r m n) turns after rest) after rest) ends

pub threads-more : {X : Type 0} (goes : Ahead) (is_last : X → Bool) (r : ℕ → Reader (X × ℕ)) (next : ℕ) (tokens : List Lexeme) (x : X) (after : ℕ) (middle : List Lexeme) (xs : List X) (end : ℕ) (rest : List Lexeme) →
    goes tokens ≡ true → is_last x ≡ false → Found (r next) tokens (x, after) middle → Threads goes is_last r after middle xs end rest → Threads goes is_last r next tokens (x ∷ xs) end rest
unfolding again
threads-more {X} goes is_last r next tokens x after middle xs end rest e ends f g = record { fuel = suc (f.fuel + g.fuel); is = cases }
  where
    cases : (n turns : ℕ) → suc (f.fuel + g.fuel) ≤ n → suc (f.fuel + g.fuel) ≤ turns → thread goes is_last (λ m. r m n) turns next tokens ≡ ((x ∷ xs, end), rest)
    cases n zero le le' = absurd (omega arith)
    cases n (suc turns) le le' =
        thread-turns goes is_last (λ m. r m n) turns next tokens x after middle e (f.is n (omega arith)) ∙ ap (λ b. again X b x (thread goes is_last (λ m. r m n) turns after middle) after middle) ends
        ∙ ap (λ (q : (List X × ℕ) × List Lexeme). let p : (List X × ℕ) × List Lexeme = ((x ∷ q.0.0, q.0.1), q.1) in p) (g.is n turns (omega arith) (omega arith))
