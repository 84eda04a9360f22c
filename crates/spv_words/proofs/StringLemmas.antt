-- What stands where a string ends.
use Rattle.std.proofs.Common.{◌≡◌, ◌≢◌, ℕ, suc, ◌+◌, ◌-◌, ◌*◌, ◌/◌, ◌%◌, ◌<◌, ◌≤◌, List, [], ◌∷◌, ◌++◌, length, take, drop, get_or, replicate, All, sym, ◌∙◌, ap, subst, refl, inl, inr, append_assoc, length-append, length-drop, arith}
use Rattle.std.proofs.lemmas.Grind.{flat_map-append}
use Rattle.std.proofs.lemmas.List.{take-append-drop, take_at, length-take-le, length-replicate, get_or-append-add, get_or-replicate, get_or-take, drop_at}
use Rattle.std.proofs.lemmas.Bool.{cases_lt}
use Rattle.std.proofs.Math.ListN.{get_or-append}
use Rattle.std.proofs.Math.Seq.{take-add}
use Rattle.spv_words.specs.declared.words.Order.{Order}
use Rattle.spv_words.specs.declared.words.Order.TheVariants.{Little, Big}
use Rattle.spv_words.specs.Words.{word_bytes, words_bytes}
use Rattle.spv_words.specs.Strings.{BeginsString, terminated}

-- a word has four bytes
pub length-word_bytes : (order : Order) (word : ℕ) → length (word_bytes order word) ≡ 4
length-word_bytes Little word = refl
length-word_bytes Big word = refl

pub length-words_bytes : (order : Order) (words : List ℕ) → length (words_bytes order words) ≡ 4 * length words
length-words_bytes order [] = refl
length-words_bytes order (word ∷ words) =
    omega (arith, length-append (word_bytes order word) (words_bytes order words), length-word_bytes order word, length-words_bytes order words)

-- the bytes of the first words are the first bytes
pub words_bytes-take : (order : Order) (words : List ℕ) (n : ℕ) → n ≤ length words
    → words_bytes order (take n words) ≡ take (4 * n) (words_bytes order words)
words_bytes-take order words n within =
    let front = take n words in
    let whole : words_bytes order words ≡ words_bytes order front ++ words_bytes order (drop n words) =
    ap (words_bytes order) (sym (take-append-drop n words)) ∙ flat_map-append (word_bytes order) front (drop n words) in
    let len : length (words_bytes order front) ≡ 4 * n =
    length-words_bytes order front ∙ ap (λ k. 4 * k) (length-take-le n words within) in
    sym (ap (take (4 * n)) whole ∙ take_at (words_bytes order front) (words_bytes order (drop n words)) (4 * n) len)

-- nothing but zeros
pub zeros-are : (xs : List ℕ) → All (λ x. x ≡ 0) xs → xs ≡ replicate (length xs) 0
zeros-are [] all = refl
zeros-are (x ∷ xs) all =
    let first : x ≡ 0 = all 0 0 (omega arith) in
    ap (λ y. y ∷ xs) first ∙ ap (λ ys. 0 ∷ ys) (zeros-are xs (λ k d lt. all (suc k) d (omega arith)))

-- the words of a text that ends at a zero byte, behind which its word has zeros alone
pub spelled-to_zero : (words bytes : List ℕ) (len : ℕ) → bytes ≡ words_bytes Little words → len < length bytes
    → All (λ byte. byte ≡ 0) (take (4 * (len / 4 + 1) - len) (drop len bytes))
    → words_bytes Little (take (len / 4 + 1) words) ≡ terminated (take len bytes)
spelled-to_zero words bytes len are within zeros =
    let used = len / 4 + 1 in
    let fill = 4 * used - len in
    let whole : length bytes ≡ 4 * length words = ap length are ∙ length-words_bytes Little words in
    let fits : used ≤ length words = omega arith in
    let sum : 4 * used ≡ len + fill = omega arith in
    let front : length (take len bytes) ≡ len = length-take-le len bytes (omega arith) in
    let filled : length (take fill (drop len bytes)) ≡ 4 - length (take len bytes) % 4 =
    length-take-le fill (drop len bytes) (omega (arith, length-drop len bytes)) ∙ omega arith in
    words_bytes-take Little words used fits
    ∙ ap (take (4 * used)) (sym are)
    ∙ ap (λ n. take n bytes) sum
    ∙ take-add len fill bytes
    ∙ ap (λ xs. take len bytes ++ xs) (zeros-are (take fill (drop len bytes)) zeros ∙ ap (λ n. replicate n 0) filled)

-- the bytes of words that begin a string
pub bytes-string : (words text : List ℕ) (used : ℕ) → BeginsString words text used
    → words_bytes Little words ≡ text ++ (replicate (4 - length text % 4) 0 ++ drop (4 * used) (words_bytes Little words))
bytes-string words text used string =
    let bytes = words_bytes Little words in
    sym (take-append-drop (4 * used) bytes)
    ∙ ap (λ xs. xs ++ drop (4 * used) bytes) (sym (words_bytes-take Little words used string.within) ∙ string.spelled)
    ∙ append_assoc text (replicate (4 - length text % 4) 0) (drop (4 * used) bytes)

-- a zero byte stands behind the text of a string
pub zero-behind : (bytes text tail : List ℕ) (n : ℕ) → bytes ≡ text ++ (replicate n 0 ++ tail) → 0 < n
    → get_or bytes (length text) 0 ≡ 0
zero-behind bytes text tail n are some =
    let at : length text ≡ length text + 0 = omega arith in
    ap (λ xs. get_or xs (length text) 0) are
    ∙ ap (λ k. get_or (text ++ (replicate n 0 ++ tail)) k 0) at
    ∙ get_or-append-add text (replicate n 0 ++ tail) 0 0
    ∙ get_or-append (replicate n 0) tail 0 0 (omega (arith, length-replicate {A = ℕ} n 0))
    ∙ get_or-replicate {A = ℕ} n 0 0 0 some

-- bytes of a text, zeros and a rest are more than the text's
pub longer-behind : (bytes text tail : List ℕ) (n : ℕ) → bytes ≡ text ++ (replicate n 0 ++ tail) → 0 < n
    → length text < length bytes
longer-behind bytes text tail n are some =
    let whole : length bytes ≡ length (text ++ (replicate n 0 ++ tail)) = ap length are in
    omega (arith, whole, length-append text (replicate n 0 ++ tail), length-append (replicate n 0) tail, length-replicate {A = ℕ} n 0)

-- the first zero byte stands behind the text
pub len-string : (bytes text tail : List ℕ) (n len : ℕ) → bytes ≡ text ++ (replicate n 0 ++ tail) → 0 < n
    → All (λ byte. byte ≢ 0) text → get_or bytes len 0 ≡ 0 → All (λ byte. byte ≢ 0) (take len bytes) → len < length bytes
    → len ≡ length text
len-string bytes text tail n len are some no_zero is_zero before within =
    let front : length (take len bytes) ≡ len = length-take-le len bytes (omega arith) in
    elim (cases_lt len (length text)) [
      | inl lt ↦ absurd (no_zero len 0 lt (sym (get_or-append text (replicate n 0 ++ tail) 0 len lt) ∙ ap (λ xs. get_or xs len 0) (sym are) ∙ is_zero))
      | inr ge ↦ elim (cases_lt (length text) len) [
        | inl lt ↦ absurd (before (length text) 0 (omega arith) (get_or-take len bytes (length text) 0 lt ∙ zero-behind bytes text tail n are some))
        | inr le ↦ omega arith
      ]
    ]

-- what a string's bytes are, where the first zero byte is known
pub record ZeroAt (bytes : List ℕ) (len : ℕ) : Type 0 where
  pub within : len < length bytes
  pub zero : get_or bytes len 0 ≡ 0
  pub before : All (λ byte. byte ≢ 0) (take len bytes)

-- the words begin no string where no byte is zero
pub no_string-none : (words bytes : List ℕ) → bytes ≡ words_bytes Little words → All (λ byte. byte ≢ 0) bytes
    → (text : List ℕ) (used : ℕ) → BeginsString words text used → ⊥
no_string-none words bytes are none text used string =
    let tail = drop (4 * used) (words_bytes Little words) in
    let n = 4 - length text % 4 in
    let some : 0 < n = omega arith in
    let parts : bytes ≡ text ++ (replicate n 0 ++ tail) = are ∙ bytes-string words text used string in
    none (length text) 0 (longer-behind bytes text tail n parts some) (zero-behind bytes text tail n parts some)

-- the text of a string is what stands before the first zero byte
pub text-string : (words bytes : List ℕ) (len : ℕ) → bytes ≡ words_bytes Little words → ZeroAt bytes len
    → (text : List ℕ) (used : ℕ) → BeginsString words text used → take len bytes ≡ text
text-string words bytes len are at text used string =
    let tail = drop (4 * used) (words_bytes Little words) in
    let n = 4 - length text % 4 in
    let some : 0 < n = omega arith in
    let parts : bytes ≡ text ++ (replicate n 0 ++ tail) = are ∙ bytes-string words text used string in
    let same : len ≡ length text = len-string bytes text tail n len parts some string.no_zero at.zero at.before at.within in
    ap (take len) parts ∙ take_at text (replicate n 0 ++ tail) len (sym same)

-- behind the first zero byte of a string its word has zeros alone
pub zeros-string : (words bytes : List ℕ) (len : ℕ) → bytes ≡ words_bytes Little words → ZeroAt bytes len
    → (text : List ℕ) (used : ℕ) → BeginsString words text used
    → All (λ byte. byte ≡ 0) (take (4 * (len / 4 + 1) - len) (drop len bytes))
zeros-string words bytes len are at text used string =
    let tail = drop (4 * used) (words_bytes Little words) in
    let n = 4 - length text % 4 in
    let some : 0 < n = omega arith in
    let parts : bytes ≡ text ++ (replicate n 0 ++ tail) = are ∙ bytes-string words text used string in
    let same : len ≡ length text = len-string bytes text tail n len parts some string.no_zero at.zero at.before at.within in
    let fill : 4 * (len / 4 + 1) - len ≡ n = omega arith in
    let zeros : take (4 * (len / 4 + 1) - len) (drop len bytes) ≡ replicate n 0 =
    ap (λ k. take k (drop len bytes)) fill
    ∙ ap (λ xs. take n (drop len xs)) parts
    ∙ ap (take n) (drop_at text (replicate n 0 ++ tail) len (sym same))
    ∙ take_at (replicate n 0) tail n (length-replicate {A = ℕ} n 0) in
    let P : List ℕ → Type 0 = λ xs. All (λ byte. byte ≡ 0) xs in
    subst P (sym zeros) (λ k d lt. get_or-replicate {A = ℕ} n k 0 d (omega (arith, length-replicate {A = ℕ} n 0)))
