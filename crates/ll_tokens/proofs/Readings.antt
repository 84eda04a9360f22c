-- What one more token makes of the tokens that were read.
use Rattle.std.proofs.Common.{◌≡◌, ℕ, zero, suc, ◌+◌, ◌<◌, ◌≤◌, Bool, true, false, ◌||◌, cond, eqb, List, [], ◌∷◌, ◌++◌, length, take, drop, IsUtf8, sym, refl, ap, ◌∙◌, subst, arith, length-take-le, length-drop, subst₂}
use Rattle.std.specs.List.{prefix_len}
use Rattle.std.proofs.lemmas.List.{map_push}
use Rattle.std.proofs.lemmas.Bool.{cond-false}
use Rattle.std.proofs.lemmas.Bool.Decides.{nat_tests}
use Rattle.std.proofs.lemmas.Str.{IsUtf8-drop}
use Rattle.ll_tokens.specs.declared.bytes.ByteClass.TheVariants.{Blank, Name}
use Rattle.ll_tokens.specs.declared.kinds.TokenKind.{TokenKind}
use Rattle.ll_tokens.specs.declared.kinds.Token.{Token}
use Rattle.ll_tokens.specs.Forms.{in_class}
use Rattle.ll_tokens.specs.Tokens.{comment_behind, behind, behind_gap, Lexeme, lexeme_of, lexemes_of, IsLongestFront, BeginsWith, Reads}
use Rattle.ll_tokens.proofs.Blanks.{behind_cons, behind_nil, behind_gap_is_utf8}
use Rattle.ll_tokens.proofs.Ends.{boundary_behind_front, front_not_empty}

-- the loop's invariant: these tokens are read, `rest` is left, and `run` bytes that a label may have
-- stand at its front
pub record ReadSoFar (text : List ℕ) (tokens : List Token) (rest : List ℕ) (run : ℕ) : Type 0 where
  pub reads : Reads (length text) (lexemes_of tokens) text rest
  pub utf8 : IsUtf8 rest
  pub in_text : length rest ≤ length text
  pub run_is : run ≡ prefix_len (in_class Name) rest

-- one token more at the end
Reads-push : (total : ℕ) (tokens : List Lexeme) (text rest : List ℕ) (token : Lexeme) → Reads total tokens text rest → BeginsWith total token rest → Reads total (tokens ++ token ∷ []) text (behind_gap (drop (length token.text) rest))
Reads-push total [] text rest token reads begins =
    (subst (BeginsWith total token) (sym reads) begins, ap (λ r. behind_gap (drop (length token.text) r)) reads)
Reads-push total (t ∷ ts) text rest token reads begins = (reads.0, Reads-push total ts _ rest token reads.1 begins)

-- what is left behind a gap is no longer than what was there
le_if : (t : Bool) (rest bs : List ℕ) (b : ℕ) → length rest ≤ length bs → length (cond t rest (b ∷ bs)) ≤ suc (length bs)
le_if true rest bs b le = omega arith
le_if false rest bs b le = omega arith

pub behind_le : (in_comment : Bool) (bs : List ℕ) → length (behind in_comment bs) ≤ length bs
behind_le in_comment [] = omega (arith, ap length (behind_nil in_comment))
behind_le in_comment (b ∷ bs) =
    subst (λ l. length l ≤ suc (length bs)) (sym (behind_cons in_comment b bs)) (le_if _ _ bs b (behind_le (comment_behind in_comment b) bs))

-- in a run of bytes of a class, a place's run is what is left of it
drop_step : (p : ℕ → Bool) (xs : List ℕ) (n : ℕ) → (n ≤ prefix_len p xs → n + prefix_len p (drop n xs) ≡ prefix_len p xs) → (t : Bool) → suc n ≤ cond t (1 + prefix_len p xs) 0 → suc n + prefix_len p (drop n xs) ≡ cond t (1 + prefix_len p xs) 0
drop_step p xs n rest true le = let e = rest (omega arith) in omega arith
drop_step p xs n rest false le = absurd (omega arith)

prefix_len-drop : (p : ℕ → Bool) (xs : List ℕ) (n : ℕ) → n ≤ prefix_len p xs → n + prefix_len p (drop n xs) ≡ prefix_len p xs
prefix_len-drop p xs zero le = omega arith
prefix_len-drop p [] (suc n) le = absurd (omega arith)
prefix_len-drop p (x ∷ xs) (suc n) le = drop_step p xs n (prefix_len-drop p xs n) (p x) le

-- no blank or comment begins with a byte that a label may have
name_is_no_gap : (b : ℕ) → in_class Name b ≡ true → (eqb b 59 || in_class Blank b) ≡ false
name_is_no_gap b h = grind (arith, nat_tests)

first_of_run : (p : ℕ → Bool) (b : ℕ) (bs : List ℕ) (t : Bool) → p b ≡ t → 0 < cond t (1 + prefix_len p bs) 0 → p b ≡ true
first_of_run p b bs true e h = e
first_of_run p b bs false e h = absurd (omega arith)

no_gap : (bs : List ℕ) → 0 < prefix_len (in_class Name) bs → behind_gap bs ≡ bs
no_gap [] h = absurd (omega arith)
no_gap (b ∷ bs) h =
    behind_cons false b bs ∙ cond-false _ _ _ (name_is_no_gap b (first_of_run (in_class Name) b bs (in_class Name b) refl h))

-- inside a run, what is left of it stands behind a token
pub run_behind : (run n : ℕ) (rest : List ℕ) → run ≡ prefix_len (in_class Name) rest → n < run → run ≡ n + prefix_len (in_class Name) (behind_gap (drop n rest))
run_behind run n rest is lt =
    let e = prefix_len-drop (in_class Name) rest n (omega arith) in
    let same = ap (prefix_len (in_class Name)) (no_gap (drop n rest) (omega arith)) in
    omega (arith, same)

-- no token is read yet
pub read_start : (text rest : List ℕ) (tokens : List Token) (run : ℕ) → IsUtf8 text → tokens ≡ [] → rest ≡ behind_gap text → run ≡ prefix_len (in_class Name) rest → ReadSoFar text tokens rest run
read_start text rest tokens run utf8 none rest_is run_is = record {
  reads = subst (λ ts. Reads (length text) (lexemes_of ts) text rest) (sym none) (sym rest_is);
  utf8 = subst IsUtf8 (sym rest_is) (behind_gap_is_utf8 text utf8);
  in_text = omega (arith, ap length rest_is, behind_le false text);
  run_is = run_is;
}

-- what is left gets shorter
pub next_is_shorter : (rest next : List ℕ) (kind : TokenKind) (n : ℕ) → IsLongestFront kind n rest → next ≡ behind_gap (drop n rest) → length next < length rest
next_is_shorter rest next kind n front is =
    omega (arith, front_not_empty front, front.in_range, ap length is, behind_le false (drop n rest), length-drop n rest)

pub read_next : (text rest : List ℕ) (tokens : List Token) (run next_run : ℕ) (token : Token) (kind : TokenKind) (n : ℕ) (next : List ℕ) → ReadSoFar text tokens rest run → IsLongestFront kind n rest → token.kind ≡ kind → token.text.now ≡ take n rest → token.byte + length rest ≡ length text → next ≡ behind_gap (drop n rest) → next_run ≡ prefix_len (in_class Name) next → ReadSoFar text (tokens ++ token ∷ []) next next_run
read_next text rest tokens run next_run token kind n next before front kind_is text_is place next_is run_is =
    let length_is : length token.text.now ≡ n = ap length text_is ∙ length-take-le n rest front.in_range in
    let begins : BeginsWith (length text) (lexeme_of token) rest = record {
      text = text_is ∙ ap (λ k. take k rest) (sym length_is);
      front = subst₂ (λ k m. IsLongestFront k m rest) (sym kind_is) (sym length_is) front;
      place = place;
    } in
    let left : behind_gap (drop (length token.text.now) rest) ≡ next = ap (λ k. behind_gap (drop k rest)) length_is ∙ sym next_is in
    record {
      reads = subst₂ (λ ts r. Reads (length text) ts text r) (sym (map_push lexeme_of tokens token)) left (Reads-push (length text) (lexemes_of tokens) text rest (lexeme_of token) before.reads begins);
      utf8 = subst IsUtf8 (sym next_is) (behind_gap_is_utf8 (drop n rest) (IsUtf8-drop rest n before.utf8 (boundary_behind_front front before.utf8)));
      in_text = omega (arith, next_is_shorter rest next kind n front next_is, before.in_text);
      run_is = run_is;
    }
