-- Types and address spaces are read as they are written.
use Rattle.std.proofs.Common.{◌≡◌, ℕ, zero, suc, ◌^◌, ◌<◌, ◌-◌, min, true, false, List, [], ◌∷◌, codes, length, refl, ◌∙◌, ap, inl, inr, arith}
use Rattle.std.specs.Fmt.{decimal}
use Rattle.ll_tokens.specs.declared.kinds.TokenKind.TheVariants.{Int as IntToken, Word}
use Rattle.ll_tokens.specs.Forms.{has_form}
use Rattle.ll_tokens.specs.Tokens.{Lexeme}
use Rattle.ll_tree.specs.declared.name.NameText.{NameText}
use Rattle.ll_tree.specs.declared.ty.LlType.{LlType}
use Rattle.ll_tree.specs.declared.ty.TypeBase.{TypeBase, Void, Int, Half, Float, Double, Named, Array', Vector', Struct', Packed', Row_of-LlType, end_of-LlType, more_of-LlType}
use Rattle.ll_tree.specs.Names.{name_unplaced}
use Rattle.ll_tree.specs.Types.{base_changed, row_changed, type_changed}
use Rattle.ll_parser.specs.GrammarTypes.{integer_type, number, pointer, space, ty, type_base, types, types_behind, written_space}
use Rattle.ll_parser.specs.Spellings.{integer_value}
use Rattle.ll_parser.specs.Productions.{◌>>◌, each}
use Rattle.ll_phrases.specs.Phrases.{Solid, a_number, each_phrase}
use Rattle.ll_phrases.specs.TypePhrases.{base_phrase, members_phrase, pointer_phrase, space_phrase, type_phrase, types_behind as behind_phrase, types_phrase}
use Rattle.ll_phrases.proofs.NameTexts.{IsDigits, decimal-digits, integer-type-kind, number-text, wide}
use Rattle.ll_phrases.proofs.NamesWritten.{type-name-written}
use Rattle.ll_phrases.proofs.Written.{Fixed, Written, any-written, before-blank, behind-blank, comma-then, constant, fixed-as, fixed-behind-blank, fixed-both, fixed-then, loose-fixed, loose-written, made, mark-fixed, nothing-fixed, nothing-written, pair, solid-laid, then-fixed, word-fixed}

pub number-fixed : (n : ℕ) → n < 2 ^ 63 → Fixed false false (number n) (a_number n)
number-fixed n lt =
    let text = number-text n (omega (arith, lt)) in
    record {
      laid = solid-laid IntToken (decimal n) text.kind;
      reads = λ tokens rest (l, is, kind, same). (l, is, kind, (ap integer_value same ∙ text.value, lt));
    }

pub number-small : (n : ℕ) (tokens rest : List Lexeme) → number n tokens rest → n < 2 ^ 63
number-small n tokens rest (l, is, kind, (value, small)) = small

pub space-fixed : (n : ℕ) → n < 2 ^ 63 → Fixed false true (written_space n) (space_phrase n)
unfolding has_form
space-fixed n lt =
    fixed-both (word-fixed (codes "addrspace") refl) (fixed-both (mark-fixed 40 refl) (fixed-both (number-fixed n lt) (mark-fixed 41 refl) refl) refl) refl

pub space-small : (n : ℕ) (tokens rest : List Lexeme) → space n tokens rest → n < 2 ^ 63
unfolding ◌>>◌
space-small n tokens rest (inl (a, w, (b, opens, (c, is, closes)))) = number-small n b c is
space-small n tokens rest (inr (none, same)) = omega (arith, none)

pointer-fixed : (n : ℕ) → n < 2 ^ 63 → Fixed true true (pointer n) (pointer_phrase n)
unfolding ◌>>◌
pointer-fixed zero lt = fixed-as (λ tokens rest is. (tokens, inr (refl, refl), is)) (mark-fixed 42 refl)
pointer-fixed (suc n) lt =
    fixed-as (λ tokens rest (m, s, star). (m, inl s, star)) (fixed-behind-blank (fixed-both (space-fixed (suc n) lt) (mark-fixed 42 refl) refl))

pub pointers-fixed : (spaces : List ℕ) (tokens rest : List Lexeme) → each pointer spaces tokens rest → Fixed true false (each pointer spaces) (each_phrase pointer_phrase spaces)
unfolding ◌>>◌
pointers-fixed [] tokens rest is = nothing-fixed
pointers-fixed (n ∷ spaces) tokens rest (m, (k, s, star), more) =
    loose-fixed (fixed-both (pointer-fixed n (space-small n tokens k s)) (pointers-fixed spaces m rest more) refl)

-- an integer type of so many bits
bits-small : (n bits : ℕ) → bits ≡ min n (2 ^ 64 - 1) → bits < 2 ^ 64
bits-small n bits is = omega (arith, is)

bits-again : (n bits : ℕ) → n ≡ bits → bits < 2 ^ 64 → bits ≡ min n (2 ^ 64 - 1)
bits-again n bits is lt = omega (arith, is, lt)

some-digits : (n : ℕ) (digits : List ℕ) → IsDigits n digits → digits ≡ [] → ⊥
some-digits n digits is none = omega (arith, is.some, ap length none)

pub integer-type-fixed : (bits : ℕ) (tokens rest : List Lexeme) → integer_type bits tokens rest → Fixed false false (integer_type bits) (Solid Word (105 ∷ decimal bits))
integer-type-fixed bits tokens rest (l, is, kind, (digits, text, all, some, value)) =
    let small = bits-small _ bits value in
    let again = decimal-digits bits (wide bits small) in
    record {
      laid = solid-laid Word (105 ∷ decimal bits) (integer-type-kind bits (decimal bits) again);
      reads = λ ts rs (k, at, of, same). (k, at, of, (decimal bits, same, again.digits_only, some-digits bits (decimal bits) again, bits-again _ bits again.value small));
    }

module _ (names : List NameText) where
  mutual
    unfolding ◌>>◌ has_form

    pub base-written : (b : TypeBase) (tokens rest : List Lexeme) → type_base names b tokens rest → Written false false (base_changed name_unplaced) (type_base names) (base_phrase names b) b
    base-written Void tokens rest d = constant _ _ Void (word-fixed (codes "void") refl)
    base-written (Int bits) tokens rest d = constant _ _ (Int bits) (integer-type-fixed bits tokens rest d)
    base-written Half tokens rest d = constant _ _ Half (word-fixed (codes "half") refl)
    base-written Float tokens rest d = constant _ _ Float (word-fixed (codes "float") refl)
    base-written Double tokens rest d = constant _ _ Double (word-fixed (codes "double") refl)
    base-written (Named name) tokens rest d = made (λ n. Named n) (λ n. Named n) (λ n. refl) (λ n ts rs is. is) (type-name-written names name tokens rest d)
    base-written (Array' count shape part) tokens rest (a, opens, (b, counted, (c, x, (e, parts, closes)))) =
        any-written (made (λ r. Array' count shape r) (λ r. Array' count shape r) (λ r. refl) (λ r ts rs is. is)
        (fixed-then (mark-fixed 91 refl)
        (fixed-then (number-fixed count (number-small count a b counted))
        (behind-blank (fixed-then (word-fixed (codes "x") refl) (behind-blank (then-fixed (row-written part c e parts) (mark-fixed 93 refl) refl)) refl)) refl) refl))
    base-written (Vector' lanes shape part) tokens rest (a, opens, (b, counted, (c, x, (e, parts, closes)))) =
        any-written (made (λ r. Vector' lanes shape r) (λ r. Vector' lanes shape r) (λ r. refl) (λ r ts rs is. is)
        (fixed-then (mark-fixed 60 refl)
        (fixed-then (number-fixed lanes (number-small lanes a b counted))
        (behind-blank (fixed-then (word-fixed (codes "x") refl) (behind-blank (then-fixed (row-written part c e parts) (mark-fixed 62 refl) refl)) refl)) refl) refl))
    base-written (Struct' shape members) tokens rest (a, opens, (b, parts, closes)) =
        any-written (made (λ r. Struct' shape r) (λ r. Struct' shape r) (λ r. refl) (λ r ts rs is. is)
        (fixed-then (mark-fixed 123 refl) (then-fixed (members-written members a b parts) (mark-fixed 125 refl) refl) refl))
    base-written (Packed' shape members) tokens rest (z, less, (a, opens, (b, parts, (c, closes, more)))) =
        any-written (made (λ r. Packed' shape r) (λ r. Packed' shape r) (λ r. refl) (λ r ts rs is. is)
        (fixed-then (mark-fixed 60 refl)
        (fixed-then (mark-fixed 123 refl) (then-fixed (members-written members a b parts) (fixed-both (mark-fixed 125 refl) (mark-fixed 62 refl) refl) refl) refl) refl))

    pub row-written : {n : _} (row : Row_of-LlType n) (tokens rest : List Lexeme) → types names row tokens rest → Written false false (row_changed name_unplaced) (types names) (types_phrase names row) row
    row-written end_of-LlType tokens rest d = any-written (nothing-written _ _ end_of-LlType (λ ts rs is. is))
    row-written (more_of-LlType base pointers row) tokens rest (a, b, (c, ps, more)) =
        made (λ z. more_of-LlType z.0 pointers z.1) (λ z. more_of-LlType z.0 pointers z.1) (λ z. refl) (λ z ts rs is. is)
        (pair (base-written base tokens a b) (fixed-then (pointers-fixed pointers a c ps) (behind-written-row row c rest more) refl) refl)

    members-written : {n : _} (row : Row_of-LlType n) (tokens rest : List Lexeme) → types names row tokens rest → Written true false (row_changed name_unplaced) (types names) (members_phrase names row) row
    members-written end_of-LlType tokens rest d = nothing-written _ _ end_of-LlType (λ ts rs is. is)
    members-written (more_of-LlType base pointers row) tokens rest (a, b, (c, ps, more)) =
        loose-written (made (λ z. more_of-LlType z.0 pointers z.1) (λ z. more_of-LlType z.0 pointers z.1) (λ z. refl) (λ z ts rs is. is)
        (behind-blank (pair (base-written base tokens a b) (fixed-then (pointers-fixed pointers a c ps) (before-blank (behind-written-row row c rest more)) refl) refl)))

    behind-written-row : {n : _} (row : Row_of-LlType n) (tokens rest : List Lexeme) → types_behind names row tokens rest → Written true false (row_changed name_unplaced) (types_behind names) (behind_phrase names row) row
    behind-written-row end_of-LlType tokens rest d = nothing-written _ _ end_of-LlType (λ ts rs is. is)
    behind-written-row (more_of-LlType base pointers row) tokens rest (k, comma_is, (a, b, (c, ps, more))) =
        made (λ z. more_of-LlType z.0 pointers z.1) (λ z. more_of-LlType z.0 pointers z.1) (λ z. refl) (λ z ts rs is. is)
        (comma-then (pair (base-written base k a b) (fixed-then (pointers-fixed pointers a c ps) (behind-written-row row c rest more) refl) refl))

  pub type-written : (t : LlType) (tokens rest : List Lexeme) → ty names t tokens rest → Written false false (type_changed name_unplaced) (ty names) (type_phrase names t) t
  unfolding ◌>>◌
  type-written t tokens rest (m, base, ps) =
      made (λ b. record { base = b; pointers = t.pointers }) (λ b. record { base = b; pointers = t.pointers }) (λ b. refl) (λ b ts rs is. is)
      (then-fixed (base-written t.base tokens m base) (pointers-fixed t.pointers m rest ps) refl)
