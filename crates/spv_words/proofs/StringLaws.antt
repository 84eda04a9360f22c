-- One list of words for bytes, one string for words.
use Rattle.std.proofs.Common.{◌≡◌, ◌≢◌, ℕ, suc, ◌+◌, ◌-◌, ◌*◌, ◌%◌, ◌^◌, ◌<◌, List, [], ◌∷◌, ◌++◌, length, take, drop, replicate, All, sym, ◌∙◌, ap, subst, refl, length-append, arith}
use Rattle.std.specs.Int.{w32, from_le_bytes, from_be_bytes}
use Rattle.std.proofs.lemmas.Nat.{from_le_bytes-to_le_bytes_4, from_be_bytes-to_be_bytes_4}
use Rattle.std.proofs.lemmas.List.{take_at, drop_at, length-replicate, length-take-le}
use Rattle.spv_words.specs.declared.words.Order.{Order}
use Rattle.spv_words.specs.declared.words.Order.TheVariants.{Little, Big}
use Rattle.spv_words.specs.Words.{word_bytes, words_bytes}
use Rattle.spv_words.specs.Strings.{BeginsString, terminated}
use Rattle.spv_words.specs.Laws.{OneWordList, OneString, StringReadsBack}
use Rattle.spv_words.proofs.StringLemmas.{bytes-string, len-string, length-word_bytes, length-words_bytes, longer-behind, zero-behind}

-- the word that four bytes spell
abbrev word_of : Order → List ℕ → ℕ
word_of Little bytes = from_le_bytes w32 bytes
word_of Big bytes = from_be_bytes w32 bytes

word_of-word_bytes : (order : Order) (word : ℕ) → word < 2 ^ 32 → word_of order (word_bytes order word) ≡ word
word_of-word_bytes Little word fits = from_le_bytes-to_le_bytes_4 word fits
word_of-word_bytes Big word fits = from_be_bytes-to_be_bytes_4 word fits

-- equal bytes, equal words
same-words : (order : Order) (words others : List ℕ) → All (λ word. word < 2 ^ 32) words → All (λ word. word < 2 ^ 32) others
    → words_bytes order words ≡ words_bytes order others → words ≡ others
same-words order [] [] fit others_fit same = refl
same-words order [] (other ∷ others) fit others_fit same =
    absurd (omega (arith, ap length same, length-words_bytes order (other ∷ others)))
same-words order (word ∷ words) [] fit others_fit same =
    absurd (omega (arith, ap length same, length-words_bytes order (word ∷ words)))
same-words order (word ∷ words) (other ∷ others) fit others_fit same =
    let front : word_bytes order word ≡ word_bytes order other =
    sym (take_at (word_bytes order word) (words_bytes order words) 4 (length-word_bytes order word))
    ∙ ap (take 4) same
    ∙ take_at (word_bytes order other) (words_bytes order others) 4 (length-word_bytes order other) in
    let behind : words_bytes order words ≡ words_bytes order others =
    sym (drop_at (word_bytes order word) (words_bytes order words) 4 (length-word_bytes order word))
    ∙ ap (drop 4) same
    ∙ drop_at (word_bytes order other) (words_bytes order others) 4 (length-word_bytes order other) in
    let head : word ≡ other =
    sym (word_of-word_bytes order word (fit 0 0 (omega arith)))
    ∙ ap (word_of order) front
    ∙ word_of-word_bytes order other (others_fit 0 0 (omega arith)) in
    let tail : words ≡ others =
    same-words order words others (λ k d lt. fit (suc k) d (omega arith)) (λ k d lt. others_fit (suc k) d (omega arith)) behind in
    ap (λ w. w ∷ words) head ∙ ap (λ ws. other ∷ ws) tail

pub one-word_list : OneWordList
one-word_list order bytes words others first second =
    same-words order words others first.in_range second.in_range (sym first.spelled ∙ second.spelled)

-- how many words a string takes
pub count-string : (words text : List ℕ) (used : ℕ) → BeginsString words text used → 4 * used ≡ length text + (4 - length text % 4)
count-string words text used string =
    let front : length (take used words) ≡ used = length-take-le used words string.within in
    let bytes : length (words_bytes Little (take used words)) ≡ length (terminated text) = ap length string.spelled in
    let len : length (replicate {A = ℕ} (4 - length text % 4) 0) ≡ 4 - length text % 4 =
    length-replicate {A = ℕ} (4 - length text % 4) 0 in
    omega (arith, bytes, front, len, length-words_bytes Little (take used words), length-append text (replicate {A = ℕ} (4 - length text % 4) 0))

pub one-string : OneString
one-string words text other used count first second =
    let bytes = words_bytes Little words in
    let tail = drop (4 * used) bytes in
    let rest = drop (4 * count) bytes in
    let n = 4 - length text % 4 in
    let m = 4 - length other % 4 in
    let some : 0 < n = omega arith in
    let more : 0 < m = omega arith in
    let parts = bytes-string words text used first in
    let others = bytes-string words other count second in
    let front : take (length other) bytes ≡ other =
    ap (take (length other)) others ∙ take_at other (replicate m 0 ++ rest) (length other) refl in
    let NoZero : List ℕ → Type 0 = λ xs. All (λ byte. byte ≢ 0) xs in
    let len : length other ≡ length text =
    len-string bytes text tail n (length other) parts some first.no_zero (zero-behind bytes other rest m others more) (subst NoZero (sym front) second.no_zero)
    (longer-behind bytes other rest m others more) in
    let same : text ≡ other =
    sym (ap (take (length text)) parts ∙ take_at text (replicate n 0 ++ tail) (length text) refl)
    ∙ ap (λ k. take k bytes) (sym len)
    ∙ front in
    let words_same : length text ≡ length other = ap length same in
    (same, omega (arith, count-string words text used first, count-string words other count second, words_same))

pub string-reads_back : StringReadsBack
string-reads_back text words rest utf8 no_zero are =
    record {
      within = omega (arith, length-append words rest);
      spelled = ap (words_bytes Little) (take_at words rest (length words) refl) ∙ sym are.spelled;
      utf8 = utf8;
      no_zero = no_zero;
    }
