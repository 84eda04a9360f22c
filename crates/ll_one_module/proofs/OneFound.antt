-- What one reader finds in the same tokens is one thing.
use Rattle.std.proofs.Common.{◌≡◌, ◌+◌, List, refl, sym, ap, ◌∙◌, arith}
use Rattle.ll_tokens.specs.Tokens.{Lexeme}
use Rattle.ll_one_module.specs.Laws.{TypedValuesAreOne, ValuesAreOne}
use Rattle.ll_one_module.proofs.Numbers.{first_table, second_table}
use Rattle.ll_one_module.proofs.Readers.{Reader, Found, never}
use Rattle.ll_one_module.proofs.Same.{typed-kept, value-kept}
use Rattle.ll_one_module.proofs.ValuesFound.{typed-reads, value-reads}

pub one-found : {X : Type 0} (r : Reader X) (tokens : List Lexeme) (x y : X) (rest rest' : List Lexeme) → Found r tokens x rest → Found r tokens y rest' → (x ≡ y) × (rest ≡ rest')
one-found {X} r tokens x y rest rest' f g =
    let both : (let p : X × List Lexeme = (x, rest) in p) ≡ (y, rest') = sym (f.is (f.fuel + g.fuel) (omega arith)) ∙ g.is (f.fuel + g.fuel) (omega arith) in
    (ap (λ (p : X × List Lexeme). p.0) both, ap (λ (p : X × List Lexeme). p.1) both)

pub values-one : ValuesAreOne
values-one a b once v w t u tokens rest rest' d e =
    let found = one-found _ tokens _ _ rest rest' ((value-reads (first_table a b) {u = never} v t).reads tokens rest d refl) ((value-reads (second_table b once) {u = never} w u).reads tokens rest' e refl) in
    (found.0 ∙ value-kept w, found.1)

pub typed-one : TypedValuesAreOne
typed-one a b once v w tokens rest rest' d e =
    let found = one-found _ tokens _ _ rest rest' ((typed-reads (first_table a b) {u = never} v).reads tokens rest d refl) ((typed-reads (second_table b once) {u = never} w).reads tokens rest' e refl) in
    (found.0 ∙ typed-kept w, found.1)
