-- The texts of lists of phrases, which grow item by item.
use Rattle.std.proofs.Common.{◌≡◌, ℕ, zero, suc, ◌+◌, ◌<◌, List, [], ◌∷◌, ◌++◌, length, take, get_or, refl, ap, sym, ◌∙◌, append_assoc, append-nil, add-one, ◌≢◌, arith}
use Rattle.std.specs.Prelude.{OnOk}
use Rattle.std.proofs.Common.{Result, Ok, Err}
use Rattle.std.proofs.Math.Seq.{take-suc}
use Rattle.std.proofs.lemmas.List.{length-take-le}
use Rattle.ll_phrases.specs.Phrases.{Phrase, written, each_phrase, each_behind, list_phrase}
use Rattle.ll_op_printer.specs.Parts.{separator, spaced_phrase}

-- a text that grew three times
pub three_parts : (start a b c text1 text2 text3 : List ℕ) → text1 ≡ start ++ a → text2 ≡ text1 ++ b → text3 ≡ text2 ++ c → text3 ≡ start ++ (a ++ (b ++ c))
three_parts start a b c text1 text2 text3 first second third =
    third ∙ (ap (λ text. text ++ c) (second ∙ ap (λ text. text ++ b) first) ∙ (append_assoc (start ++ a) b c ∙ append_assoc start a (b ++ c)))

module _ {A : Type 0} (phrase : A → Phrase) where
  each_last : (xs : List A) (x : A) → written (each_phrase phrase (xs ++ x ∷ [])) ≡ written (each_phrase phrase xs) ++ written (phrase x)
  each_last [] x = append-nil (written (phrase x))
  each_last (y ∷ ys) x = ap (λ rest. written (phrase y) ++ rest) (each_last ys x) ∙ sym (append_assoc (written (phrase y)) (written (each_phrase phrase ys)) (written (phrase x)))

  behind_last : (xs : List A) (x : A) → written (each_behind phrase (xs ++ x ∷ [])) ≡ written (each_behind phrase xs) ++ 44 ∷ 32 ∷ written (phrase x)
  behind_last [] x = ap (λ rest. 44 ∷ 32 ∷ rest) (append-nil (written (phrase x)))
  behind_last (y ∷ ys) x =
      ap (λ rest. 44 ∷ 32 ∷ (written (phrase y) ++ rest)) (behind_last ys x)
      ∙ ap (λ rest. 44 ∷ 32 ∷ rest) (sym (append_assoc (written (phrase y)) (written (each_behind phrase ys)) (44 ∷ 32 ∷ written (phrase x))))

  -- the first i items with one more behind them
  list_last : (xs : List A) (x : A) → written (list_phrase phrase (xs ++ x ∷ [])) ≡ written (list_phrase phrase xs) ++ (separator (length xs) ++ written (phrase x))
  list_last [] x = append-nil (written (phrase x))
  list_last (y ∷ ys) x =
      ap (λ rest. written (phrase y) ++ rest) (behind_last ys x)
      ∙ sym (append_assoc (written (phrase y)) (written (each_behind phrase ys)) (44 ∷ 32 ∷ written (phrase x)))

  pub each_more : (xs : List A) (i : ℕ) (d : A) (start text0 text1 : List ℕ) → i < length xs → text0 ≡ start ++ written (each_phrase phrase (take i xs)) → text1 ≡ text0 ++ written (phrase (get_or xs i d)) → text1 ≡ start ++ written (each_phrase phrase (take (i + 1) xs))
  each_more xs i d start text0 text1 lt before grows =
      rw (add-one, take-suc xs i d lt, each_last) (grows ∙ (ap (λ text. text ++ written (phrase (get_or xs i d))) before ∙ append_assoc start (written (each_phrase phrase (take i xs))) _))

  pub list_more : (xs : List A) (i : ℕ) (d : A) (start text0 text1 text2 : List ℕ) → i < length xs → text0 ≡ start ++ written (list_phrase phrase (take i xs)) → text1 ≡ text0 ++ separator i → text2 ≡ text1 ++ written (phrase (get_or xs i d)) → text2 ≡ start ++ written (list_phrase phrase (take (i + 1) xs))
  list_more xs i d start text0 text1 text2 lt before comma grows =
      let here : length (take i xs) ≡ i = length-take-le i xs (omega arith) in
      rw (add-one, take-suc xs i d lt, list_last, here)
      (grows ∙ (ap (λ text. text ++ written (phrase (get_or xs i d))) (comma ∙ ap (λ text. text ++ separator i) before)
      ∙ (append_assoc (start ++ written (list_phrase phrase (take i xs))) (separator i) _ ∙ append_assoc start (written (list_phrase phrase (take i xs))) _)))

  -- a list between blanks, where there are any items
  pub spaced_written : (xs : List A) → length xs ≢ 0 → written (spaced_phrase phrase xs) ≡ 32 ∷ (written (list_phrase phrase xs) ++ 32 ∷ [])
  spaced_written [] some = absurd (some refl)
  spaced_written (x ∷ xs) some = ap (λ rest. 32 ∷ rest) (sym (append_assoc (written (phrase x)) (written (each_behind phrase xs)) (32 ∷ [])))

  pub behind_more : (xs : List A) (i : ℕ) (d : A) (start text0 text1 text2 : List ℕ) → i < length xs → text0 ≡ start ++ written (each_behind phrase (take i xs)) → text1 ≡ text0 ++ 44 ∷ 32 ∷ [] → text2 ≡ text1 ++ written (phrase (get_or xs i d)) → text2 ≡ start ++ written (each_behind phrase (take (i + 1) xs))
  behind_more xs i d start text0 text1 text2 lt before comma grows =
      rw (add-one, take-suc xs i d lt, behind_last)
      (grows ∙ (ap (λ text. text ++ written (phrase (get_or xs i d))) (comma ∙ ap (λ text. text ++ 44 ∷ 32 ∷ []) before)
      ∙ (append_assoc (start ++ written (each_behind phrase (take i xs))) (44 ∷ 32 ∷ []) _ ∙ append_assoc start (written (each_behind phrase (take i xs))) _)))

-- what follows from what holds of a call that succeeds
pub on_ok : {T E P Q : Type 0} (result : Result T E) → (P → Q) → OnOk result P → OnOk result Q
on_ok (Ok value) then_so holds = then_so holds
on_ok (Err error) then_so holds = tt

pub three_ok : {T E : Type 0} (result : Result T E) (start a b c text1 text2 text3 : List ℕ) → text1 ≡ start ++ a → text2 ≡ text1 ++ b → OnOk result (text3 ≡ text2 ++ c) → OnOk result (text3 ≡ start ++ (a ++ (b ++ c)))
three_ok result start a b c text1 text2 text3 first second = on_ok result (λ third. three_parts start a b c text1 text2 text3 first second third)

-- a text that grew four times, the third time by two parts
pub four_ok : {T E : Type 0} (result : Result T E) (start a b c d e text1 text2 text3 text4 : List ℕ) → text1 ≡ start ++ a → text2 ≡ text1 ++ b → text3 ≡ text2 ++ (c ++ d) → OnOk result (text4 ≡ text3 ++ e)
    → OnOk result (text4 ≡ start ++ (a ++ (b ++ (c ++ (d ++ e)))))
four_ok result start a b c d e text1 text2 text3 text4 first second third =
    on_ok result (λ fourth. fourth ∙ (ap (λ text. text ++ e) (three_parts start a b (c ++ d) text1 text2 text3 first second third)
    ∙ (append_assoc start (a ++ (b ++ (c ++ d))) e ∙ ap (λ text. start ++ text) (append_assoc a (b ++ (c ++ d)) e ∙ ap (λ text. a ++ text) (append_assoc b (c ++ d) e ∙ ap (λ text. b ++ text) (append_assoc c d e))))))

-- the second time by two parts
pub loaded_ok : {T E : Type 0} (result : Result T E) (start a b c d e text1 text2 text3 text4 : List ℕ) → text1 ≡ start ++ a → text2 ≡ text1 ++ (b ++ c) → text3 ≡ text2 ++ d → OnOk result (text4 ≡ text3 ++ e)
    → OnOk result (text4 ≡ start ++ (a ++ (b ++ (c ++ (d ++ e)))))
loaded_ok result start a b c d e text1 text2 text3 text4 first second third =
    on_ok result (λ fourth. fourth ∙ (ap (λ text. text ++ e) (three_parts start a (b ++ c) d text1 text2 text3 first second third)
    ∙ (append_assoc start (a ++ ((b ++ c) ++ d)) e ∙ ap (λ text. start ++ text) (append_assoc a ((b ++ c) ++ d) e ∙ ap (λ text. a ++ text) (append_assoc (b ++ c) d e ∙ append_assoc b c (d ++ e))))))

-- a text that grew seven times
pub seven_ok : {T E : Type 0} (result : Result T E) (start a b c d e f g text1 text2 text3 text4 text5 text6 text7 : List ℕ) → text1 ≡ start ++ a → text2 ≡ text1 ++ b → text3 ≡ text2 ++ c → text4 ≡ text3 ++ d → text5 ≡ text4 ++ e → text6 ≡ text5 ++ f
    → OnOk result (text7 ≡ text6 ++ g) → OnOk result (text7 ≡ start ++ (a ++ (b ++ (c ++ (d ++ (e ++ (f ++ g)))))))
seven_ok result start a b c d e f g text1 text2 text3 text4 text5 text6 text7 is1 is2 is3 is4 is5 is6 =
    on_ok result (λ is7. three_parts (start ++ (a ++ (b ++ (c ++ d)))) e f g text5 text6 text7 (is5 ∙ ap (λ text. text ++ e) (four start a b c d text1 text2 text3 text4 is1 is2 is3 is4)) is6 is7
    ∙ regroup start a b c d (e ++ (f ++ g)))
  where
    four : (s i j k l t1 t2 t3 t4 : List ℕ) → t1 ≡ s ++ i → t2 ≡ t1 ++ j → t3 ≡ t2 ++ k → t4 ≡ t3 ++ l → t4 ≡ s ++ (i ++ (j ++ (k ++ l)))
    four s i j k l t1 t2 t3 t4 p q r t = three_parts (s ++ i) j k l t2 t3 t4 (q ∙ ap (λ x. x ++ j) p) r t ∙ append_assoc s i (j ++ (k ++ l))

    regroup : (s i j k l m : List ℕ) → (s ++ (i ++ (j ++ (k ++ l)))) ++ m ≡ s ++ (i ++ (j ++ (k ++ (l ++ m))))
    regroup s i j k l m =
        append_assoc s (i ++ (j ++ (k ++ l))) m ∙ ap (λ x. s ++ x) (append_assoc i (j ++ (k ++ l)) m ∙ ap (λ x. i ++ x) (append_assoc j (k ++ l) m ∙ ap (λ x. j ++ x) (append_assoc k l m)))
