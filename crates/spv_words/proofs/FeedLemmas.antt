-- Words behind words, as bytes come.
use Rattle.std.proofs.Common.{◌≡◌, ℕ, suc, ◌+◌, ◌-◌, ◌<◌, ◌≤◌, List, [], ◌∷◌, ◌++◌, length, take, drop, set, sym, ◌∙◌, ap, append_assoc, append-nil, length-drop, arith}
use Rattle.std.proofs.lemmas.Grind.{flat_map-append}
use Rattle.std.proofs.lemmas.List.{take_all, length-set, length-take-le}
use Rattle.std.proofs.Math.Seq.{take-suc-set, take-append-add}
use Rattle.spv_words.specs.declared.words.Order.{Order}
use Rattle.spv_words.specs.Words.{word_bytes, words_bytes}
use Rattle.std.proofs.Math.ListN.{drop_of_length-le}
use Rattle.spv_words.specs.Feeds.{Pushed}

-- the byte that makes a word whole
pub Pushed-word : (order : Order) (held : List ℕ) (at byte word : ℕ) (out_old out_new : List ℕ)
    → length held ≡ at + 1 → word_bytes order word ≡ set held at byte → out_new ≡ out_old ++ word ∷ []
    → Pushed order (take at held ++ byte ∷ []) out_old out_new []
Pushed-word order held at byte word out_old out_new len is_word appended =
    let within : at < length held = omega arith in
    let all : length (set held at byte) ≤ suc at = omega (arith, length-set held at byte) in
    record {
      given = word ∷ [];
      appended = appended;
      spelled =
          sym (take-suc-set held at byte within)
          ∙ take_all (suc at) (set held at byte) all
          ∙ sym is_word
          ∙ sym (append-nil (word_bytes order word))
          ∙ sym (append-nil (word_bytes order word ++ []));
    }

-- bytes taken one after another
pub Pushed-then : (order : Order) (bytes more old mid new rest next : List ℕ) → Pushed order bytes old mid rest
    → Pushed order (rest ++ more) mid new next → Pushed order (bytes ++ more) old new next
Pushed-then order bytes more old mid new rest next first second =
    record {
      given = first.given ++ second.given;
      appended =
          second.appended ∙ ap (λ xs. xs ++ second.given) first.appended ∙ append_assoc old first.given second.given;
      spelled =
          ap (λ xs. xs ++ more) first.spelled
          ∙ append_assoc (words_bytes order first.given) rest more
          ∙ ap (λ xs. words_bytes order first.given ++ xs) second.spelled
          ∙ sym (append_assoc (words_bytes order first.given) (words_bytes order second.given) next)
          ∙ ap (λ xs. xs ++ next) (sym (flat_map-append (word_bytes order) first.given second.given));
    }

-- four bytes of which the first are held and the others come
pub four-front : (held piece new post : List ℕ) (len : ℕ) → length held ≡ 4 → len < 4 → new ≡ take (4 - len) piece
    → post ≡ [] → take len held ++ (new ++ post) ≡ take 4 (take len held ++ piece)
four-front held piece new post len whole short is_new is_post =
    let front : length (take len held) ≡ len = length-take-le len held (omega arith) in
    let four : length (take len held) + (4 - len) ≡ 4 = omega arith in
    ap (λ xs. take len held ++ (new ++ xs)) is_post
    ∙ ap (λ xs. take len held ++ xs) (append-nil new ∙ is_new)
    ∙ sym (take-append-add (take len held) piece (4 - len))
    ∙ ap (λ n. take n (take len held ++ piece)) four

-- what stands behind the held bytes and those that were missing
pub nothing-behind : (held : List ℕ) (len : ℕ) → length held ≡ 4 → len < 4 → drop (4 - len) (drop len held) ≡ []
nothing-behind held len whole short =
    drop_of_length-le (drop len held) (omega (arith, length-drop len held))
