-- The words of a text.
use Rattle.std.proofs.Common.{◌≡◌, ℕ, zero, suc, ◌+◌, ◌-◌, ◌*◌, ◌/◌, ◌%◌, ◌^◌, ◌<◌, List, [], ◌∷◌, ◌++◌, map, length, get_or, replicate, All, refl, sym, ◌∙◌, ap, arith}
use Rattle.std.specs.Int.{to_le_bytes, w32}
use Rattle.std.specs.List.{range_with_len}
use Rattle.std.proofs.lemmas.Nat.{le_bytes_4}
use Rattle.std.proofs.lemmas.List.Elements.{All-nil, All-cons}
use Rattle.spv_words.specs.declared.words.Order.TheVariants.{Little}
use Rattle.spv_words.specs.Strings.{terminated}
use Rattle.spv_words.specs.Words.{IsWords, words_bytes}
use Rattle.spv_module.specs.Texts.{text_words, word_at}

-- functions that agree one place further on
map-further : (f g : ℕ → ℕ) → ((k : ℕ) → f (k + 1) ≡ g k) → (start n : ℕ) → map f (range_with_len (start + 1) n) ≡ map g (range_with_len start n)
map-further f g same start zero = refl
map-further f g same start (suc n) =
    ap (λ w. w ∷ map f (range_with_len (start + 1 + 1) n)) (same start) ∙ ap (λ ws. g start ∷ ws) (map-further f g same (start + 1) n)

-- a byte behind four others
get-further : (a b c d : ℕ) (text : List ℕ) (at : ℕ) → get_or (a ∷ b ∷ c ∷ d ∷ text) (at + 4) 0 ≡ get_or text at 0
get-further a b c d text at =
    let n : at + 4 ≡ suc (suc (suc (suc at))) = omega arith in
    ap (λ k. get_or (a ∷ b ∷ c ∷ d ∷ text) k 0) n

word-further : (a b c d : ℕ) (text : List ℕ) (k : ℕ) → word_at (a ∷ b ∷ c ∷ d ∷ text) (4 * (k + 1)) ≡ word_at text (4 * k)
word-further a b c d text k =
    let here = get-further a b c d text (4 * k) in
    let second = get-further a b c d text (4 * k + 1) in
    let third = get-further a b c d text (4 * k + 2) in
    let fourth = get-further a b c d text (4 * k + 3) in
    let At : ℕ → ℕ = λ n. get_or (a ∷ b ∷ c ∷ d ∷ text) n 0 in
    let n : 4 * (k + 1) ≡ 4 * k + 4 = omega arith in
    let m : 4 * (k + 1) + 1 ≡ 4 * k + 1 + 4 = omega arith in
    let o : 4 * (k + 1) + 2 ≡ 4 * k + 2 + 4 = omega arith in
    let p : 4 * (k + 1) + 3 ≡ 4 * k + 3 + 4 = omega arith in
    omega (arith, ap At n, ap At m, ap At o, ap At p)

words-further : (a b c d : ℕ) (text : List ℕ) → text_words (a ∷ b ∷ c ∷ d ∷ text) ≡ word_at (a ∷ b ∷ c ∷ d ∷ []) 0 ∷ text_words text
words-further a b c d text =
    let whole = a ∷ b ∷ c ∷ d ∷ text in
    let count : length whole / 4 + 1 ≡ suc (length text / 4 + 1) = omega arith in
    ap (λ n. map (λ k. word_at whole (4 * k)) (range_with_len 0 n)) count
    ∙ ap (λ ws. word_at (a ∷ b ∷ c ∷ d ∷ []) 0 ∷ ws)
    (map-further (λ k. word_at whole (4 * k)) (λ k. word_at text (4 * k)) (word-further a b c d text) 0 (length text / 4 + 1))

terminated-further : (a b c d : ℕ) (text : List ℕ) → terminated (a ∷ b ∷ c ∷ d ∷ text) ≡ a ∷ b ∷ c ∷ d ∷ terminated text
terminated-further a b c d text =
    let n : 4 - length (a ∷ b ∷ c ∷ d ∷ text) % 4 ≡ 4 - length text % 4 = omega arith in
    ap (λ k. a ∷ b ∷ c ∷ d ∷ (text ++ replicate k 0)) n

-- the bytes of a word
four-bytes : (a b c d : ℕ) → a < 256 → b < 256 → c < 256 → d < 256 → to_le_bytes w32 (word_at (a ∷ b ∷ c ∷ d ∷ []) 0) ≡ a ∷ b ∷ c ∷ d ∷ []
four-bytes a b c d first second third fourth =
    le_bytes_4 (a ∷ b ∷ c ∷ d ∷ []) (word_at (a ∷ b ∷ c ∷ d ∷ []) 0) refl below (omega arith)
  where
    below : (i : ℕ) → get_or (a ∷ b ∷ c ∷ d ∷ []) i 0 < 256
    below zero = first
    below (suc zero) = second
    below (suc (suc zero)) = third
    below (suc (suc (suc zero))) = fourth
    below (suc (suc (suc (suc i)))) = omega arith

-- one word, and those behind it
is_words-more : (bytes words : List ℕ) (a b c d : ℕ) → a < 256 → b < 256 → c < 256 → d < 256 → IsWords bytes Little words
    → IsWords (a ∷ b ∷ c ∷ d ∷ bytes) Little (word_at (a ∷ b ∷ c ∷ d ∷ []) 0 ∷ words)
is_words-more bytes words a b c d first second third fourth are = record {
  spelled =
      ap (λ bs. a ∷ b ∷ c ∷ d ∷ bs) are.spelled
      ∙ ap (λ bs. bs ++ words_bytes Little words) (sym (four-bytes a b c d first second third fourth));
  in_range = All-cons (λ word. word < 2 ^ 32) (word_at (a ∷ b ∷ c ∷ d ∷ []) 0) words (omega arith) are.in_range;
}

none-are : IsWords [] Little []
none-are = record { spelled = refl; in_range = All-nil (λ word. word < 2 ^ 32) }

pub text-are_words : (text : List ℕ) → All (λ byte. byte < 256) text → IsWords (terminated text) Little (text_words text)
text-are_words [] fit = is_words-more [] [] 0 0 0 0 (omega arith) (omega arith) (omega arith) (omega arith) none-are
text-are_words (a ∷ []) fit = is_words-more [] [] a 0 0 0 (fit 0 0 (omega arith)) (omega arith) (omega arith) (omega arith) none-are
text-are_words (a ∷ b ∷ []) fit =
    is_words-more [] [] a b 0 0 (fit 0 0 (omega arith)) (fit 1 0 (omega arith)) (omega arith) (omega arith) none-are
text-are_words (a ∷ b ∷ c ∷ []) fit =
    is_words-more [] [] a b c 0 (fit 0 0 (omega arith)) (fit 1 0 (omega arith)) (fit 2 0 (omega arith)) (omega arith) none-are
text-are_words (a ∷ b ∷ c ∷ d ∷ text) fit =
    let behind = text-are_words text (λ k e lt. fit (suc (suc (suc (suc k)))) e (omega arith)) in
    rw (terminated-further a b c d text, words-further a b c d text)
    (is_words-more (terminated text) (text_words text) a b c d (fit 0 0 (omega arith)) (fit 1 0 (omega arith)) (fit 2 0 (omega arith)) (fit 3 0 (omega arith)) behind)
