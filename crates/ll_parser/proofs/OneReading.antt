-- What stands for one value at most.
use Rattle.std.proofs.Common.{◌≡◌, ℕ, ◌^◌, ◌-◌, ℤ, pos, min, List, [], ◌∷◌, refl, sym, ap, ap₂, ◌∙◌, subst, inl, inr}
use Rattle.ll_tokens.specs.Tokens.{Lexeme}
use Rattle.ll_parser.specs.GrammarTypes.{number, integer_type, space, written_space, pointer}
use Rattle.ll_parser.specs.Pointers.{NoPointer, pointers_here}
use Rattle.ll_parser.specs.Productions.{◌>>◌, mark, each}
use Rattle.ll_parser.specs.Spaces.{space_here, NoSpace}
use Rattle.ll_parser.proofs.PointerFacts.{word_no_mark, pointer_begins, pointer_leaves_one}
use Rattle.ll_parser.proofs.SpaceFacts.{word_leaves_one, mark_leaves_one}
use Rattle.ll_parser.specs.Spellings.{decimal_value, integer_value}
use Rattle.ll_parser.proofs.TokenFacts.{same_first, same_rest}

whole_part : ℤ → ℕ
whole_part (pos n) = n
whole_part _ = 0

pos_same : (v w : ℕ) → pos v ≡ pos w → v ≡ w
unfolding whole_part
pos_same v w e = ap whole_part e

pub one_number : (v w : ℕ) (tokens a b : List Lexeme) → number v tokens a → number w tokens b → (v ≡ w) × (a ≡ b)
one_number v w tokens a b (l, is, _, (value_l, _)) (m, is', _, (value_m, _)) =
    let same : l ≡ m = same_first l m a b (sym is ∙ is') in
    (pos_same v w (sym value_l ∙ ap (λ (t : Lexeme). integer_value t.text) same ∙ value_m), same_rest l m a b (sym is ∙ is'))

pub one_integer_type : (v w : ℕ) (tokens a b : List Lexeme) → integer_type v tokens a → integer_type w tokens b → (v ≡ w) × (a ≡ b)
one_integer_type v w tokens a b (l, is, _, (ds, text_l, _, _, bits_l)) (m, is', _, (es, text_m, _, _, bits_m)) =
    let same : l ≡ m = same_first l m a b (sym is ∙ is') in
    let digits : ds ≡ es = same_rest 105 105 ds es (sym text_l ∙ ap (λ (t : Lexeme). t.text) same ∙ text_m) in
    (bits_l ∙ ap (λ d. min (decimal_value d) (2 ^ 64 - 1)) digits ∙ sym bits_m, same_rest l m a b (sym is ∙ is'))

-- a written address space is one, and a pointer
pub one_written_space : (v w : ℕ) (tokens a b : List Lexeme) → written_space v tokens a → written_space w tokens b → v ≡ w
unfolding ◌>>◌
one_written_space v w tokens a b (p, word_p, (q, mark_q, (r, number_r, _))) (p', word_p', (q', mark_q', (r', number_r', _))) =
    let same_p : p' ≡ p = word_leaves_one _ tokens p' p word_p' word_p in
    let same_q : q' ≡ q = mark_leaves_one 40 p q' q (subst (λ ts. mark 40 ts q') same_p mark_q') mark_q in
    (one_number v w q r r' number_r (subst (λ ts. number w ts r') same_q number_r')).0

pub one_pointer : (v w : ℕ) (tokens a b : List Lexeme) → pointer v tokens a → pointer w tokens b → v ≡ w
unfolding ◌>>◌
one_pointer v w tokens a b (p, inl written, _) (q, inl written', _) = one_written_space v w tokens p q written written'
one_pointer v w tokens a b (p, inl (_, word_p, _), _) (q, inr (_, same), star) =
    absurd (word_no_mark _ 42 tokens _ b word_p (subst (λ ts. mark 42 ts b) (sym same) star))
one_pointer v w tokens a b (p, inr (_, same), star) (q, inl (_, word_q, _), _) =
    absurd (word_no_mark _ 42 tokens _ a word_q (subst (λ ts. mark 42 ts a) (sym same) star))
one_pointer v w tokens a b (p, inr (none, _), _) (q, inr (none', _), _) = none ∙ sym none'

pub one_pointer_list : (xs ys : List ℕ) (tokens a b : List Lexeme) → each pointer xs tokens a → NoPointer a → each pointer ys tokens b → NoPointer b → (xs ≡ ys) × (a ≡ b)
unfolding ◌>>◌
one_pointer_list [] [] tokens a b same end same' end' = (refl, sym same ∙ same')
one_pointer_list [] (y ∷ ys) tokens a b same end (behind, first, _) end' = absurd (pointer_begins y tokens behind first (subst NoPointer (sym same) end))
one_pointer_list (x ∷ xs) [] tokens a b (behind, first, _) end same' end' = absurd (pointer_begins x tokens behind first (subst NoPointer (sym same') end'))
one_pointer_list (x ∷ xs) (y ∷ ys) tokens a b (behind, first, more) end (behind', first', more') end' =
    let left : behind' ≡ behind = pointer_leaves_one y x tokens behind' behind first' first in
    let rest : (xs ≡ ys) × (a ≡ b) = one_pointer_list xs ys behind a b more end (subst (λ ts. each pointer ys ts b) left more') end' in
    (ap₂ (λ (z : ℕ) (zs : List ℕ). z ∷ zs) (one_pointer x y tokens behind behind' first first') rest.0, rest.1)

pub one_pointers : (xs ys : List ℕ) (tokens a b : List Lexeme) → pointers_here xs tokens a → pointers_here ys tokens b → (xs ≡ ys) × (a ≡ b)
one_pointers xs ys tokens a b here here' = one_pointer_list xs ys tokens a b here.pointers here.all here'.pointers here'.all

-- an address space before tokens that begin with none is read, and what is read is one
pub space_read_whole : (value : ℕ) (tokens rest : List Lexeme) → space value tokens rest → NoSpace rest → space_here value tokens rest
space_read_whole value tokens rest (inl written) none = inl written
space_read_whole value tokens rest (inr (zero', same)) none = inr (zero', same, subst NoSpace (sym same) none)

pub space_here_is_space : (value : ℕ) (tokens rest : List Lexeme) → space_here value tokens rest → space value tokens rest
space_here_is_space value tokens rest (inl written) = inl written
space_here_is_space value tokens rest (inr (zero', same, _)) = inr (zero', same)
