-- Pointers, read one by one.
use Rattle.std.proofs.Common.{◌≡◌, ◌↔◌, IsTrue, Bool, true, false, ℕ, ◌<◌, suc, List, [], ◌∷◌, ◌++◌, length, refl, sym, ap, ◌∙◌, subst, inl, inr, arith}
use Rattle.ll_tokens.specs.declared.kinds.TokenKind.{TokenKind}
use Rattle.ll_tokens.specs.declared.kinds.TokenKind.TheVariants.{Word, Punct}
use Rattle.ll_tokens.specs.Tokens.{Lexeme}
use Rattle.ll_parser.specs.declared.refusal.Refusal.{Refusal}
use Rattle.ll_parser.specs.GrammarTypes.{number, space, written_space, pointer}
use Rattle.ll_parser.specs.Pointers.{NoPointer, PointerFails, PointersRefused}
use Rattle.ll_parser.specs.Productions.{◌>>◌, word, mark, each}
use Rattle.ll_parser.specs.Reading.{EndsNowhere, DerivesNone}
use Rattle.ll_parser.specs.Spaces.{space_here, NoSpace, IsNoSpace}
use Rattle.ll_parser.proofs.SpaceFacts.{mark_leaves_one, word_leaves_one, number_leaves_one}
use Rattle.ll_parser.proofs.TokenFacts.{same_first}

is_word_kind : TokenKind → ℕ
is_word_kind Word = 1
is_word_kind _ = 0

one_is_not_zero : (a b : ℕ) → a ≡ 1 → b ≡ 0 → a ≡ b → ⊥
one_is_not_zero a b one zero' e = omega arith

word_is_not_punct : Word ≡ Punct → ⊥
unfolding is_word_kind
word_is_not_punct e = one_is_not_zero (is_word_kind Word) (is_word_kind Punct) refl refl (ap is_word_kind e)

-- a word is no mark
pub word_no_mark : (text : List ℕ) (code : ℕ) (tokens a b : List Lexeme) → word text tokens a → mark code tokens b → ⊥
word_no_mark text code tokens a b (l, is, kind_l, _) (m, is', kind_m, _) =
    word_is_not_punct (sym kind_l ∙ ap (λ (t : Lexeme). t.kind) (same_first l m _ _ (sym is ∙ is')) ∙ kind_m)

pub written_leaves_one : (v w : ℕ) (tokens a b : List Lexeme) → written_space v tokens a → written_space w tokens b → a ≡ b
unfolding ◌>>◌
written_leaves_one v w tokens a b (p, word_p, (q, mark_q, (r, number_r, mark_a))) (p', word_p', (q', mark_q', (r', number_r', mark_b))) =
    let same_p : p' ≡ p = word_leaves_one _ tokens p' p word_p' word_p in
    let same_q : q' ≡ q = mark_leaves_one 40 p q' q (subst (λ ts. mark 40 ts q') same_p mark_q') mark_q in
    let same_r : r' ≡ r = number_leaves_one w v q r' r (subst (λ ts. number w ts r') same_q number_r') number_r in
    mark_leaves_one 41 r a b mark_a (subst (λ ts. mark 41 ts b) same_r mark_b)

-- a written address space begins with its word
pub written_begins : (v : ℕ) (tokens a : List Lexeme) → written_space v tokens a → NoSpace tokens → ⊥
unfolding ◌>>◌
written_begins v tokens a (p, word_p, _) nowhere = nowhere p word_p

pub pointer_leaves_one : (v w : ℕ) (tokens a b : List Lexeme) → pointer v tokens a → pointer w tokens b → a ≡ b
unfolding ◌>>◌
pointer_leaves_one v w tokens a b (p, inl written, star) (q, inl written', star') =
    mark_leaves_one 42 p a b star (subst (λ ts. mark 42 ts b) (written_leaves_one w v tokens q p written' written) star')
pointer_leaves_one v w tokens a b (p, inl (_, word_p, _), star) (q, inr (_, same), star') =
    absurd (word_no_mark _ 42 tokens _ b word_p (subst (λ ts. mark 42 ts b) (sym same) star'))
pointer_leaves_one v w tokens a b (p, inr (_, same), star) (q, inl (_, word_q, _), star') =
    absurd (word_no_mark _ 42 tokens _ a word_q (subst (λ ts. mark 42 ts a) (sym same) star))
pointer_leaves_one v w tokens a b (p, inr (_, same), star) (q, inr (_, same'), star') =
    mark_leaves_one 42 tokens a b (subst (λ ts. mark 42 ts a) (sym same) star) (subst (λ ts. mark 42 ts b) (sym same') star')

pub pointer_begins : (v : ℕ) (tokens a : List Lexeme) → pointer v tokens a → NoPointer tokens → ⊥
unfolding ◌>>◌
pointer_begins v tokens a (p, inl (q, word_q, _), star) nowhere = nowhere.no_space q word_q
pointer_begins v tokens a (p, inr (_, same), star) nowhere = nowhere.no_star a (subst (λ ts. mark 42 ts a) (sym same) star)

-- a space as it is read, and a `*`
pub pointer_read : (v : ℕ) (tokens behind rest : List Lexeme) → space_here v tokens behind → mark 42 behind rest → pointer v tokens rest
unfolding ◌>>◌
pointer_read v tokens behind rest (inl written) star = (behind, inl written, star)
pointer_read v tokens behind rest (inr (none, same, _)) star = (behind, inr (none, same), star)

pub pointer_none_at_space : (tokens : List Lexeme) (refusal : Refusal) → DerivesNone space_here tokens → IsNoSpace tokens refusal → DerivesNone pointer tokens
unfolding ◌>>◌
pointer_none_at_space tokens refusal none place v rest (p, inl written, star) = none v p (inl written)
pointer_none_at_space tokens refusal none (behind, word_p, _) v rest (p, inr (_, same), star) =
    word_no_mark _ 42 tokens behind rest word_p (subst (λ ts. mark 42 ts rest) (sym same) star)

pub pointer_none_at_star : (w : ℕ) (tokens behind : List Lexeme) → space_here w tokens behind → EndsNowhere (mark 42) behind → DerivesNone pointer tokens
unfolding ◌>>◌
pointer_none_at_star w tokens behind (inl written) nowhere v rest (p, inl written', star) =
    nowhere rest (subst (λ ts. mark 42 ts rest) (written_leaves_one v w tokens p behind written' written) star)
pointer_none_at_star w tokens behind (inl (_, word_p, _)) nowhere v rest (p, inr (_, same), star) =
    word_no_mark _ 42 tokens _ rest word_p (subst (λ ts. mark 42 ts rest) (sym same) star)
pointer_none_at_star w tokens behind (inr (_, _, no_space)) nowhere v rest (p, inl (q, word_q, _), star) = no_space q word_q
pointer_none_at_star w tokens behind (inr (_, same', _)) nowhere v rest (p, inr (_, same), star) =
    nowhere rest (subst (λ ts. mark 42 ts rest) (sym same ∙ same') star)

-- one pointer more
pub each_push : (spaces : List ℕ) (v : ℕ) (tokens middle rest : List Lexeme) → each pointer spaces tokens middle → pointer v middle rest → each pointer (spaces ++ v ∷ []) tokens rest
unfolding ◌>>◌
each_push [] v tokens middle rest same one = (rest, subst (λ ts. pointer v ts rest) (sym same) one, refl)
each_push (x ∷ xs) v tokens middle rest (behind, first, others) one = (behind, first, each_push xs v behind middle rest others one)

-- behind some pointers one fails, so these tokens have no pointers that are all
pub none_behind : (spaces : List ℕ) (tokens middle : List Lexeme) → each pointer spaces tokens middle → (NoPointer middle → ⊥) → DerivesNone pointer middle → (others : List ℕ) (rest : List Lexeme) → each pointer others tokens rest → NoPointer rest → ⊥
unfolding ◌>>◌
none_behind [] tokens middle same begins none [] rest same' all = begins (subst NoPointer (sym same' ∙ same) all)
none_behind [] tokens middle same begins none (y ∷ ys) rest (behind, first, _) all = none y behind (subst (λ ts. pointer y ts behind) same first)
none_behind (x ∷ xs) tokens middle (behind, first, _) begins none [] rest same' all = pointer_begins x tokens behind first (subst NoPointer (sym same') all)
none_behind (x ∷ xs) tokens middle (behind, first, more) begins none (y ∷ ys) rest (behind', first', more') all =
    none_behind xs behind middle more begins none ys rest (subst (λ ts. each pointer ys ts rest) (pointer_leaves_one y x tokens behind' behind first' first) more') all

pub refused_behind : (spaces : List ℕ) (tokens middle : List Lexeme) (refusal : Refusal) → each pointer spaces tokens middle → PointerFails middle refusal → PointersRefused tokens refusal
refused_behind spaces tokens middle refusal before fails = record {
  none = λ others rest here. none_behind spaces tokens middle before fails.begins fails.none others rest here.pointers here.all;
  spaces = spaces;
  middle = middle;
  before = before;
  fails = fails;
}

-- what is left behind a pointer is shorter
mark_shorter : (code : ℕ) (tokens rest : List Lexeme) → mark code tokens rest → length rest < length tokens
mark_shorter code tokens rest (l, is, _, _) =
    let e : length tokens ≡ suc (length rest) = ap length is in
    omega arith

not_both : (b : Bool) → b ≡ false → IsTrue b → ⊥
not_both b e h = grind arith

-- why a pointer fails that a test says to begin
pub fails_at_space : (test : Bool) (tokens : List Lexeme) (error told : Refusal) → told ≡ error → test ≡ false → (IsTrue test ↔ NoPointer tokens) → DerivesNone space_here tokens → IsNoSpace tokens error → PointerFails tokens told
fails_at_space test tokens error told same off tested none place = subst (PointerFails tokens) (sym same) (record {
  begins = λ none_begins. not_both test off (tested.1 none_begins);
  none = pointer_none_at_space tokens error none place;
  place = inl place;
})

pub fails_at_star : (test : Bool) (v : ℕ) (tokens behind : List Lexeme) (error told : Refusal) → told ≡ error → test ≡ false → (IsTrue test ↔ NoPointer tokens) → space_here v tokens behind → EndsNowhere (mark 42) behind → (left : ℕ) → length behind ≡ left → error ≡ record { rule = 3; left = left } → PointerFails tokens told
fails_at_star test v tokens behind error told same off tested here nowhere left count place = subst (PointerFails tokens) (sym same) (record {
  begins = λ none_begins. not_both test off (tested.1 none_begins);
  none = pointer_none_at_star v tokens behind here nowhere;
  place = inr (v, behind, here, (nowhere, subst (λ n. error ≡ record { rule = 3; left = n }) (sym count) place));
})

it_holds : (b : Bool) → b ≡ true → IsTrue b
it_holds b e = grind arith

pub both_lack : (space star : Bool) (tokens : List Lexeme) → space ≡ true → (IsTrue space ↔ NoSpace tokens) → (IsTrue star ↔ EndsNowhere (mark 42) tokens) → IsTrue star ↔ NoPointer tokens
both_lack space star tokens on no_space no_star =
    ((λ yes. record { no_space = no_space.0 (it_holds space on); no_star = no_star.0 yes }), (λ none. no_star.1 none.no_star))
