-- The words at the head of functions and variables, and texts: what they leave, and that they are read in one way.
use Rattle.std.proofs.Common.{◌≡◌, ℕ, Bool, true, false, List, codes, refl, sym, ap, ◌∙◌, subst, inl, inr}
use Rattle.ll_tokens.specs.declared.kinds.TokenKind.TheVariants.{Str}
use Rattle.ll_tokens.specs.Tokens.{Lexeme}
use Rattle.ll_tree.specs.declared.module.Linkage.{Linkage}
use Rattle.ll_tree.specs.declared.module.Linkage.TheVariants.{External, Internal, Private}
use Rattle.ll_tree.specs.declared.name.NameText.{NameText}
use Rattle.ll_parser.specs.GrammarItems.{convention, linkage, text}
use Rattle.ll_parser.specs.Productions.{Production, maybe, word}
use Rattle.ll_parser.specs.Reading.{EndsNowhere}
use Rattle.ll_parser.specs.Spellings.{between_quotes}
use Rattle.ll_parser.proofs.TokenFacts.{same_first}
use Rattle.ll_attributes.specs.Heads.{convention_here, linkage_here}
use Rattle.ll_attributes.specs.Lists.{maybe_here}
use Rattle.ll_attributes.proofs.ListFacts.{maybe_one, token_one, words_apart}

-- a production that may be left out, before something that doesn't begin with it
pub maybe_whole : (p : Production) (tokens rest : List Lexeme) → maybe p tokens rest → EndsNowhere p rest → maybe_here p tokens rest
maybe_whole p tokens rest (inl d) none = inl d
maybe_whole p tokens rest (inr same) none = inr (same, subst (EndsNowhere p) (sym same) none)

pub maybe_right : (p : Production) (tokens rest : List Lexeme) → maybe_here p tokens rest → maybe p tokens rest
maybe_right p tokens rest (inl d) = inl d
maybe_right p tokens rest (inr (same, _)) = inr same

-- a linkage
pub linkage_same : (l m : Linkage) (tokens a b : List Lexeme) → linkage_here l tokens a → linkage_here m tokens b → (l ≡ m) × (a ≡ b)
linkage_same External External tokens a b (same, _, _) (same', _, _) = (refl, sym same ∙ same')
linkage_same External Internal tokens a b (_, no_internal, _) w = absurd (no_internal b w)
linkage_same External Private tokens a b (_, _, no_private) w = absurd (no_private b w)
linkage_same Internal External tokens a b w (_, no_internal, _) = absurd (no_internal a w)
linkage_same Internal Internal tokens a b w w' = (refl, token_one _ _ _ _ tokens a b w w')
linkage_same Internal Private tokens a b w w' = absurd (words_apart (codes "internal") (codes "private") tokens a b refl w w')
linkage_same Private External tokens a b w (_, _, no_private) = absurd (no_private a w)
linkage_same Private Internal tokens a b w w' = absurd (words_apart (codes "private") (codes "internal") tokens a b refl w w')
linkage_same Private Private tokens a b w w' = (refl, token_one _ _ _ _ tokens a b w w')

pub linkage_whole : (l : Linkage) (tokens rest : List Lexeme) → linkage l tokens rest → EndsNowhere (word (codes "internal")) rest → EndsNowhere (word (codes "private")) rest → linkage_here l tokens rest
linkage_whole External tokens rest same no_internal no_private =
    (same, subst (EndsNowhere (word (codes "internal"))) (sym same) no_internal, subst (EndsNowhere (word (codes "private"))) (sym same) no_private)
linkage_whole Internal tokens rest w no_internal no_private = w
linkage_whole Private tokens rest w no_internal no_private = w

pub linkage_right : (l : Linkage) (tokens rest : List Lexeme) → linkage_here l tokens rest → linkage l tokens rest
linkage_right External tokens rest (same, _, _) = same
linkage_right Internal tokens rest w = w
linkage_right Private tokens rest w = w

-- a calling convention
pub convention_same : (x y : Bool) (tokens a b : List Lexeme) → convention_here x tokens a → convention_here y tokens b → (x ≡ y) × (a ≡ b)
convention_same true true tokens a b w w' = (refl, token_one _ _ _ _ tokens a b w w')
convention_same true false tokens a b w (no_kernel, _) = absurd (no_kernel a w)
convention_same false true tokens a b (no_kernel, _) w = absurd (no_kernel b w)
convention_same false false tokens a b (_, d) (_, e) = (refl, maybe_one (word (codes "spir_func")) (token_one _ _ _ _) tokens a b d e)

pub convention_whole : (names : List NameText) (is_kernel : Bool) (tokens rest : List Lexeme) → convention names is_kernel tokens rest → EndsNowhere (word (codes "spir_kernel")) rest → EndsNowhere (word (codes "spir_func")) rest → convention_here is_kernel tokens rest
convention_whole names true tokens rest w no_kernel no_function = w
convention_whole names false tokens rest (inl w) no_kernel no_function = ((λ other k. words_apart (codes "spir_kernel") (codes "spir_func") tokens other rest refl k w), inl w)
convention_whole names false tokens rest (inr same) no_kernel no_function =
    (subst (EndsNowhere (word (codes "spir_kernel"))) (sym same) no_kernel, inr (same, subst (EndsNowhere (word (codes "spir_func"))) (sym same) no_function))

pub convention_right : (names : List NameText) (is_kernel : Bool) (tokens rest : List Lexeme) → convention_here is_kernel tokens rest → convention names is_kernel tokens rest
convention_right names true tokens rest w = w
convention_right names false tokens rest (_, d) = maybe_right (word (codes "spir_func")) tokens rest d

-- a text
pub text_same : (xs ys : List ℕ) (tokens a b : List Lexeme) → text xs tokens a → text ys tokens b → (xs ≡ ys) × (a ≡ b)
text_same xs ys tokens a b (l, is, kind, bytes) (m, is', kind', bytes') = (
  sym bytes ∙ ap (λ (t : Lexeme). between_quotes t.text) (same_first l m _ _ (sym is ∙ is')) ∙ bytes',
  token_one Str Str (λ t. between_quotes t.text ≡ xs) (λ t. between_quotes t.text ≡ ys) tokens a b (l, is, kind, bytes) (m, is', kind', bytes'),
)
