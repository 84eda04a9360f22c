-- The walk over brackets goes through types.
use Rattle.std.proofs.Common.{◌≡◌, ℕ, zero, suc, Bool, true, false, List, [], ◌∷◌, codes, refl, ap, inl, inr}
use Rattle.std.specs.Fmt.{decimal}
use Rattle.ll_tokens.specs.declared.kinds.TokenKind.TheVariants.{Attr, Bang, CStr, Global as GlobalToken, Int as IntToken, Label, Local as LocalToken, MdName, MdStr, Mdn, Str, Word}
use Rattle.ll_tokens.specs.Tokens.{Lexeme}
use Rattle.ll_tree.specs.declared.name.NameText.{NameText}
use Rattle.ll_tree.specs.declared.ty.LlType.{LlType}
use Rattle.ll_tree.specs.declared.ty.TypeBase.{TypeBase, Void, Int, Half, Float, Double, Named, Array', Vector', Struct', Packed', Row_of-LlType, end_of-LlType, more_of-LlType}
use Rattle.ll_parser.specs.GrammarTypes.{integer_type, number, pointer, ty, type_base, types, types_behind, written_space}
use Rattle.ll_parser.specs.Productions.{◌>>◌, each}
use Rattle.ll_types.specs.Nesting.{bracket_of, first_mark}
use Rattle.ll_phrases.specs.Phrases.{Solid, a_number, each_phrase, spelled}
use Rattle.ll_phrases.specs.TypePhrases.{base_phrase, members_phrase, pointer_phrase, space_phrase, type_phrase, types_behind as behind_phrase, types_phrase}
use Rattle.ll_print_depth.proofs.Passing.{IsQuiet, Leads, closing-leads, counted-leads, empty-leads, gap-leads, leads-gap, left-of, mark-mark, mark-passes, opening-leads, plain-of, plain-passes, same-tokens, skipped, then-leads, token-leads, token-mark, word-leads, word-plain}

pub quiet-int : IsQuiet IntToken
quiet-int text = record { no_mark = λ next. refl; no_group = refl }

pub quiet-local : IsQuiet LocalToken
quiet-local text = record { no_mark = λ next. refl; no_group = refl }

pub quiet-global : IsQuiet GlobalToken
quiet-global text = record { no_mark = λ next. refl; no_group = refl }

pub quiet-label : IsQuiet Label
quiet-label text = record { no_mark = λ next. refl; no_group = refl }

pub quiet-string : IsQuiet Str
quiet-string text = record { no_mark = λ next. refl; no_group = refl }

pub quiet-bytes : IsQuiet CStr
quiet-bytes text = record { no_mark = λ next. refl; no_group = refl }

pub quiet-node : IsQuiet Mdn
quiet-node text = record { no_mark = λ next. refl; no_group = refl }

pub quiet-node-name : IsQuiet MdName
quiet-node-name text = record { no_mark = λ next. refl; no_group = refl }

pub quiet-node-text : IsQuiet MdStr
quiet-node-text text = record { no_mark = λ next. refl; no_group = refl }

pub quiet-bang : IsQuiet Bang
quiet-bang text = record { no_mark = λ next. refl; no_group = refl }

pub quiet-group : IsQuiet Attr
quiet-group text = record { no_mark = λ next. refl; no_group = refl }

pub number-leads : {a : List Bool} (n : ℕ) (tokens rest : List Lexeme) → number n tokens rest → Leads a a tokens rest (a_number n)
number-leads n tokens rest d = token-leads IntToken _ (decimal n) tokens rest quiet-int d

pub space-leads : {a : List Bool} (n : ℕ) (tokens rest : List Lexeme) → written_space n tokens rest → Leads a a tokens rest (space_phrase n)
unfolding ◌>>◌
space-leads n tokens rest (p, w, (q, opens, (r, is, closes))) =
    then-leads (word-leads (codes "addrspace") tokens p refl w) (counted-leads 40 p q rest (λ next. refl) opens (then-leads (number-leads n q r is) (closing-leads true 41 r rest (λ next. refl) closes)))

pointer-leads : {a : List Bool} (n : ℕ) (tokens rest : List Lexeme) → pointer n tokens rest → Leads a a tokens rest (pointer_phrase n)
unfolding ◌>>◌
pointer-leads zero tokens rest (m, inl s, star) = skipped (left-of (space-leads zero tokens m s)) (mark-passes 42 m rest (λ next. refl) star)
pointer-leads zero tokens rest (m, inr (none, same), star) = same-tokens same (mark-passes 42 m rest (λ next. refl) star)
pointer-leads (suc n) tokens rest (m, inl s, star) = gap-leads (then-leads (space-leads (suc n) tokens m s) (mark-passes 42 m rest (λ next. refl) star))
pointer-leads (suc n) tokens rest (m, inr (none, same), star) = absurd cc

pub pointers-lead : {a : List Bool} (spaces : List ℕ) (tokens rest : List Lexeme) → each pointer spaces tokens rest → Leads a a tokens rest (each_phrase pointer_phrase spaces)
unfolding ◌>>◌
pointers-lead [] tokens rest same = empty-leads same
pointers-lead (n ∷ spaces) tokens rest (m, one, more) = then-leads (pointer-leads n tokens m one) (pointers-lead spaces m rest more)

integer-leads : {a : List Bool} (bits : ℕ) (tokens rest : List Lexeme) → integer_type bits tokens rest → Leads a a tokens rest (Solid Word (105 ∷ decimal bits))
integer-leads bits tokens rest (l, is, of, (digits, text, all, some, value)) =
    plain-passes Word (105 ∷ decimal bits) l tokens rest is (plain-of Word (105 ∷ digits) l of text (word-plain (105 ∷ digits) refl)) (word-plain (105 ∷ decimal bits) refl)

-- the mark that a type begins with
abbrev pub begin_code : TypeBase → ℕ
begin_code (Array' count shape part) = 91
begin_code (Vector' lanes shape part) = 60
begin_code (Struct' shape members) = 123
begin_code (Packed' shape members) = 60
begin_code _ = 0

module _ (names : List NameText) where
  pub base-mark : (b : TypeBase) (tokens rest : List Lexeme) → type_base names b tokens rest → first_mark tokens ≡ begin_code b
  unfolding ◌>>◌
  base-mark Void tokens rest d = token-mark Word _ tokens rest (λ text. refl) d
  base-mark (Int bits) tokens rest d = token-mark Word _ tokens rest (λ text. refl) d
  base-mark Half tokens rest d = token-mark Word _ tokens rest (λ text. refl) d
  base-mark Float tokens rest d = token-mark Word _ tokens rest (λ text. refl) d
  base-mark Double tokens rest d = token-mark Word _ tokens rest (λ text. refl) d
  base-mark (Named name) tokens rest d = token-mark LocalToken _ tokens rest (λ text. refl) d
  base-mark (Array' count shape part) tokens rest (m, d, _) = mark-mark 91 tokens m d
  base-mark (Vector' lanes shape part) tokens rest (m, d, _) = mark-mark 60 tokens m d
  base-mark (Struct' shape members) tokens rest (m, d, _) = mark-mark 123 tokens m d
  base-mark (Packed' shape members) tokens rest (m, d, _) = mark-mark 60 tokens m d

  pub written-mark : (b : TypeBase) (tokens rest : List Lexeme) → spelled (base_phrase names b) tokens rest → first_mark tokens ≡ begin_code b
  unfolding ◌>>◌
  written-mark Void tokens rest d = token-mark Word _ tokens rest (λ text. refl) d
  written-mark (Int bits) tokens rest d = token-mark Word _ tokens rest (λ text. refl) d
  written-mark Half tokens rest d = token-mark Word _ tokens rest (λ text. refl) d
  written-mark Float tokens rest d = token-mark Word _ tokens rest (λ text. refl) d
  written-mark Double tokens rest d = token-mark Word _ tokens rest (λ text. refl) d
  written-mark (Named name) tokens rest d = token-mark LocalToken _ tokens rest (λ text. refl) d
  written-mark (Array' count shape part) tokens rest (m, d, _) = mark-mark 91 tokens m d
  written-mark (Vector' lanes shape part) tokens rest (m, d, _) = mark-mark 60 tokens m d
  written-mark (Struct' shape members) tokens rest (m, d, _) = mark-mark 123 tokens m d
  written-mark (Packed' shape members) tokens rest (m, d, _) = mark-mark 60 tokens m d

  mutual
    unfolding ◌>>◌

    pub base-leads : {a : List Bool} (b : TypeBase) (tokens rest : List Lexeme) → type_base names b tokens rest → Leads a a tokens rest (base_phrase names b)
    base-leads Void tokens rest d = word-leads (codes "void") tokens rest refl d
    base-leads (Int bits) tokens rest d = integer-leads bits tokens rest d
    base-leads Half tokens rest d = word-leads (codes "half") tokens rest refl d
    base-leads Float tokens rest d = word-leads (codes "float") tokens rest refl d
    base-leads Double tokens rest d = word-leads (codes "double") tokens rest refl d
    base-leads (Named name) tokens rest d = token-leads LocalToken _ _ tokens rest quiet-local d
    base-leads (Array' count shape part) tokens rest (p, opens, (q, n, (r, x, (s, parts, closes)))) =
        counted-leads 91 tokens p rest (λ next. refl) opens
        (then-leads (number-leads count p q n) (gap-leads (then-leads (word-leads (codes "x") q r refl x) (gap-leads (then-leads (row-leads part r s parts) (closing-leads true 93 s rest (λ next. refl) closes))))))
    base-leads (Vector' lanes shape part) tokens rest (p, opens, (q, n, (r, x, (s, parts, closes)))) =
        opening-leads true 60 tokens p rest (ap (bracket_of 60) (token-mark IntToken _ p q (λ text. refl) n)) (λ ts after (m, is, more). ap (bracket_of 60) (token-mark IntToken _ ts m (λ text. refl) is)) opens
        (then-leads (number-leads lanes p q n) (gap-leads (then-leads (word-leads (codes "x") q r refl x) (gap-leads (then-leads (row-leads part r s parts) (closing-leads true 62 s rest (λ next. refl) closes))))))
    base-leads (Struct' shape members) tokens rest (p, opens, (q, parts, closes)) =
        counted-leads 123 tokens p rest (λ next. refl) opens (then-leads (members-lead members p q parts) (closing-leads true 125 q rest (λ next. refl) closes))
    base-leads (Packed' shape members) tokens rest (z, less, (p, opens, (q, parts, (r, closes, more)))) =
        opening-leads false 60 tokens z rest (ap (bracket_of 60) (mark-mark 123 z p opens)) (λ ts after (m, is, there). ap (bracket_of 60) (mark-mark 123 ts m is)) less
        (counted-leads 123 z p rest (λ next. refl) opens (then-leads (members-lead members p q parts) (then-leads (closing-leads true 125 q r (λ next. refl) closes) (closing-leads false 62 r rest (λ next. refl) more))))

    pub row-leads : {a : List Bool} {n : _} (row : Row_of-LlType n) (tokens rest : List Lexeme) → types names row tokens rest → Leads a a tokens rest (types_phrase names row)
    row-leads end_of-LlType tokens rest same = empty-leads same
    row-leads (more_of-LlType base pointers row) tokens rest (p, b, (q, ps, more)) =
        then-leads (base-leads base tokens p b) (then-leads (pointers-lead pointers p q ps) (behind-leads row q rest more))

    members-lead : {a : List Bool} {n : _} (row : Row_of-LlType n) (tokens rest : List Lexeme) → types names row tokens rest → Leads a a tokens rest (members_phrase names row)
    members-lead end_of-LlType tokens rest same = empty-leads same
    members-lead (more_of-LlType base pointers row) tokens rest (p, b, (q, ps, more)) =
        gap-leads (then-leads (base-leads base tokens p b) (then-leads (pointers-lead pointers p q ps) (leads-gap (behind-leads row q rest more))))

    behind-leads : {a : List Bool} {n : _} (row : Row_of-LlType n) (tokens rest : List Lexeme) → types_behind names row tokens rest → Leads a a tokens rest (behind_phrase names row)
    behind-leads end_of-LlType tokens rest same = empty-leads same
    behind-leads (more_of-LlType base pointers row) tokens rest (k, comma_is, (p, b, (q, ps, more))) =
        then-leads (leads-gap (mark-passes 44 tokens k (λ next. refl) comma_is)) (then-leads (base-leads base k p b) (then-leads (pointers-lead pointers p q ps) (behind-leads row q rest more)))

  pub type-leads : {a : List Bool} (t : LlType) (tokens rest : List Lexeme) → ty names t tokens rest → Leads a a tokens rest (type_phrase names t)
  unfolding ◌>>◌
  type-leads t tokens rest (m, base, ps) = then-leads (base-leads t.base tokens m base) (pointers-lead t.pointers m rest ps)
