-- Words behind words.
use Rattle.std.proofs.Common.{◌≡◌, ℕ, zero, suc, All, ◌+◌, ◌*◌, ◌^◌, ◌<◌, List, [], ◌∷◌, ◌++◌, take, drop, sym, ◌∙◌, ap, append-nil, arith}
use Rattle.std.specs.Int.{to_le_bytes, w32}
use Rattle.std.proofs.lemmas.Grind.{flat_map-append}
use Rattle.std.proofs.lemmas.List.Elements.{All-append}
use Rattle.std.proofs.Math.Seq.{take-add}
use Rattle.spv_words.specs.declared.words.Order.TheVariants.{Little}
use Rattle.spv_words.specs.Words.{IsWords, word_bytes, words_bytes}

-- the only word of a list fits
All-one : (word : ℕ) → word < 2 ^ 32 → All (λ w. w < 2 ^ 32) (word ∷ [])
All-one word fits zero d within = fits
All-one word fits (suc k) d within = absurd (omega arith)

-- one more word of four more bytes
pub IsWords-more : (bytes words : List ℕ) (i word : ℕ) → IsWords (take (4 * i) bytes) Little words
    → to_le_bytes w32 word ≡ take 4 (drop (4 * i) bytes) → word < 2 ^ 32
    → IsWords (take (4 * (i + 1)) bytes) Little (words ++ word ∷ [])
IsWords-more bytes words i word before is_word fits =
    let four : 4 * (i + 1) ≡ 4 * i + 4 = omega arith in
    record {
      spelled =
          ap (λ n. take n bytes) four ∙ take-add (4 * i) 4 bytes
          ∙ ap (λ xs. xs ++ take 4 (drop (4 * i) bytes)) before.spelled
          ∙ ap (λ xs. words_bytes Little words ++ xs) (sym is_word)
          ∙ ap (λ xs. words_bytes Little words ++ xs) (sym (append-nil (to_le_bytes w32 word)))
          ∙ sym (flat_map-append (word_bytes Little) words (word ∷ []));
      in_range = All-append (λ w. w < 2 ^ 32) words (word ∷ []) before.in_range (All-one word fits);
    }
