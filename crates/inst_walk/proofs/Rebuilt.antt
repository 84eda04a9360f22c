-- A list that is taken apart from its end and made anew from there.
use Rattle.std.proofs.Common.{◌≡◌, List, [], ◌∷◌, ◌++◌, refl, sym, ◌∙◌, ap, append_assoc, reverse}
use Rattle.std.specs.Prelude.{map}
use Rattle.std.proofs.lemmas.List.{reverse-append}

map-append : {A B : Type 0} (f : A → B) (xs ys : List A) → map f (xs ++ ys) ≡ map f xs ++ map f ys
map-append f [] ys = refl
map-append f (x ∷ xs) ys = ap (λ zs. f x ∷ zs) (map-append f xs ys)

module _ {A B : Type 0} (f : A → B) where
  pub one-moved : (items rest : List A) (x : A) (y : B) (made now whole : List B) → items ≡ rest ++ x ∷ [] → y ≡ f x → now ≡ made ++ y ∷ [] → map f items ++ reverse made ≡ whole → map f rest ++ reverse now ≡ whole
  one-moved items rest x y made now whole popped e pushed was =
      ap (λ m. map f rest ++ reverse m) (pushed ∙ ap (λ z. made ++ z ∷ []) e)
      ∙ ap (λ m. map f rest ++ m) (reverse-append made (f x ∷ []))
      ∙ sym (append_assoc (map f rest) (f x ∷ []) (reverse made))
      ∙ ap (λ m. m ++ reverse made) (sym (map-append f rest (x ∷ [])))
      ∙ ap (λ m. map f m ++ reverse made) (sym popped)
      ∙ was

  pub all-moved : (items : List A) (made whole now : List B) → items ≡ [] → map f items ++ reverse made ≡ whole → now ≡ reverse made → now ≡ whole
  all-moved items made whole now none was e = e ∙ sym (ap (λ m. map f m ++ reverse made) none) ∙ was
