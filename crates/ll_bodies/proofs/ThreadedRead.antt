-- Items that carry a number from one to the next, as a loop reads them.
use Rattle.std.proofs.Common.{◌≡◌, ℕ, List, [], ◌∷◌, ◌++◌, refl, sym, subst, suc}
use Rattle.ll_tokens.specs.Tokens.{Lexeme}
use Rattle.ll_tree.specs.declared.name.NameText.{NameText}
use Rattle.ll_parser.specs.NameReading.{ReadsWith}
use Rattle.ll_parser.specs.Productions.{Production, ◌>>◌}
use Rattle.ll_parser.proofs.TableFacts.{extends_same, extends_then}
use Rattle.ll_types.proofs.MembersRead.{derived}
use Rattle.ll_operands.specs.Parts.{times}
use Rattle.ll_bodies.specs.BodyJoins.{threaded}

module _ {A : Type 0} (item : ℕ → ℕ → List NameText → A → Production) where
  -- what a loop has read
  abbrev pub ThreadedReads : ℕ → ℕ → List NameText → List NameText → List A → Production
  ThreadedReads start now old new xs tokens rest = ReadsWith (threaded item start now) old new xs tokens rest

  pub none_read : (start : ℕ) (names : List NameText) (xs : List A) (tokens : List Lexeme) → xs ≡ [] → ThreadedReads start start names names xs tokens tokens
  none_read start names xs tokens is = record {
    extends = extends_same names;
    reads = λ longer e. subst (λ ys. threaded item start start longer ys tokens tokens) (sym is) (refl, refl);
  }

  pub push : (start now next : ℕ) (names : List NameText) (xs : List A) (x : A) (tokens middle rest : List Lexeme) → threaded item start now names xs tokens middle → item now next names x middle rest → threaded item start next names (xs ++ x ∷ []) tokens rest
  push start now next names [] x tokens middle rest (same, here) d =
      (next, rest, subst (λ ls. item start next names x ls rest) (sym here) (subst (λ n. item n next names x middle rest) same d), (refl, refl))
  push start now next names (y ∷ ys) x tokens middle rest (n, m, first, more) d = (n, m, first, push n now next names ys x m middle rest more d)

  pub one_read : (start now next : ℕ) (old mid new : List NameText) (xs all : List A) (x : A) (a b c : List Lexeme) → all ≡ xs ++ x ∷ [] → ThreadedReads start now old mid xs a b → ReadsWith (item now next) mid new x b c → ThreadedReads start next old new all a c
  one_read start now next old mid new xs all x a b c is s r = record {
    extends = extends_then old mid new s.extends r.extends;
    reads = λ longer e.
        subst (λ ys. threaded item start next longer ys a c) (sym is)
        (push start now next longer xs x a b c (s.reads longer (extends_then mid new longer r.extends e)) (r.reads longer e));
  }

  -- so many parts, whatever stands for them
  pub threaded_times : (part : Production) → ((start next : ℕ) (names : List NameText) (x : A) (tokens rest : List Lexeme) → item start next names x tokens rest → part tokens rest) → (start end : ℕ) (names : List NameText) (xs : List A) (tokens rest : List Lexeme) → threaded item start end names xs tokens rest → (count : ℕ) × times count part tokens rest
  unfolding ◌>>◌
  threaded_times part is_part start end names [] tokens rest (_, here) = (0, here)
  threaded_times part is_part start end names (x ∷ xs) tokens rest (n, m, d, more) =
      let behind : (count : ℕ) × times count part m rest = threaded_times part is_part n end names xs m rest more in
      (suc behind.0, (m, is_part start n names x tokens m d, behind.1))

  pub reads_times : (part : Production) → ((start next : ℕ) (names : List NameText) (x : A) (tokens rest : List Lexeme) → item start next names x tokens rest → part tokens rest) → (start end : ℕ) (old new : List NameText) (xs : List A) (tokens rest : List Lexeme) → ThreadedReads start end old new xs tokens rest → (count : ℕ) × times count part tokens rest
  reads_times part is_part start end old new xs tokens rest r = threaded_times part is_part start end new xs tokens rest (derived (threaded item start end) old new xs tokens rest r)
