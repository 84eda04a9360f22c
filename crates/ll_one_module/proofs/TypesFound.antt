-- Types as readers find them.
use Rattle.std.proofs.Common.{◌≡◌, ℕ, zero, suc, ◌≤◌, ◌-◌, ◌^◌, min, IsTrue, Bool, true, false, if◌then◌else◌, List, [], ◌∷◌, map, drop, codes, bytes_eq, refl, sym, ap, ◌∙◌, subst, inl, inr, arith}
use Rattle.std.specs.List.{list_all}
use Rattle.std.specs.Char.{is_ascii_digit}
use mathlib.Core.Former.{Count}
use denote.Hole.Carrier.{hidden}
use Rattle.ll_tokens.specs.declared.kinds.TokenKind.{TokenKind}
use Rattle.ll_tokens.specs.declared.kinds.TokenKind.TheVariants.{Word, Punct, Int as IntToken, Local as LocalToken}
use Rattle.ll_tokens.specs.Tokens.{Lexeme}
use Rattle.ll_tree.specs.declared.name.Name.{Name}
use Rattle.ll_tree.specs.declared.name.NameKind.TheVariants.{Struct as StructName}
use Rattle.ll_tree.specs.declared.name.NameText.{NameText}
use Rattle.ll_tree.specs.declared.ty.LlType.{LlType}
use Rattle.ll_tree.specs.declared.ty.TypeBase.{TypeBase, Void, Int, Half, Float, Double, Named, Array, Vector, Struct, Packed, Array', Vector', Struct', Packed', Row_of-LlType, end_of-LlType, more_of-LlType, items-the_row-LlType}
use Rattle.ll_tree.specs.declared.ty.TypeBase.TheBlock.{hidden-the_row-LlType-0, shape-the_row-LlType-0}
use Rattle.ll_tree.specs.Types.{type_changed, base_changed, row_changed}
use Rattle.ll_parser.specs.GrammarTypes.{ty, type_base, types, types_behind, pointer, space, written_space, number}
use Rattle.ll_parser.specs.Productions.{Production, nothing, ◌>>◌, token, word, mark, each}
use Rattle.ll_parser.specs.Spellings.{decimal_value}
use Rattle.ll_types.proofs.TypeRows.{struct_from_row, packed_from_row}
use Rattle.ll_one_module.proofs.Readers.{Ahead, Reader, Test, never, begins, done, bind, to, skip, first, choose, many, Found, Reads, Leads, Opens, Weaker, seq, then', skipped, last, none, made, at, first-reads}
use Rattle.ll_one_module.proofs.Fronts.{either, lead-nothing, either-left, either-right, is_mark, is_bits, lead-first, lead-kind, lead-mark, lead-word, opens-first, opens-token, opens-mark, opens-word}
use Rattle.ll_one_module.proofs.Lists.{ReadsMany, no-more, each-reads, one-comma-more, or-reads, only-reads, separated, separated-none, separated-more}
use Rattle.ll_one_module.proofs.NamesFound.{Numbering, read_name, read_number, renamed, name-reads, number-reads}
use Rattle.ll_one_module.proofs.Tests.{operand_start, operand_word, pointer_start, space_start}

-- address spaces and pointers
abbrev written : Reader ℕ
written = skip (skip (bind read_number (λ n. skip (done n))))

written-reads : {u : Ahead} (n : ℕ) → Reads u (written_space n) written n
written-reads n = skipped _ _ (skipped _ _ (then' _ (number-reads n) (last _ _)))

unfoldable pub read_space : Reader ℕ
read_space = choose (begins space_start) written (done 0)

pub space-reads : (n : ℕ) → Reads (begins space_start) (space n) read_space n
unfolding read_space
space-reads n =
    or-reads _ _ (begins space_start) (opens-first _ (opens-word (codes "addrspace") space_start refl)) (written-reads n)
    (record { leads = λ tokens rest d stop. ap (begins space_start) d.1 ∙ stop }) (only-reads _ nothing (λ zero'. at (sym zero') none))

unfoldable read_pointer : Reader ℕ
read_pointer = bind read_space (λ n. skip (done n))

pointer-reads : {u : Ahead} (n : ℕ) → Reads u (pointer n) read_pointer n
unfolding read_pointer
pointer-reads n = seq _ (space-reads n) (lead-mark 42 _ refl) (last _ _)

star-opens : (n : ℕ) (tokens middle rest : List Lexeme) → space n tokens middle → mark 42 middle rest → begins pointer_start tokens ≡ true
star-opens n tokens middle rest (inl d) star = (opens-first _ (opens-word (codes "addrspace") pointer_start refl)).opens tokens middle d
star-opens n tokens middle rest (inr d) star = ap (begins pointer_start) d.1 ∙ (opens-mark 42 pointer_start refl).opens middle rest star

pointer-opens : (n : ℕ) → Opens (pointer n) (begins pointer_start)
unfolding ◌>>◌
pointer-opens n = record { opens = λ tokens rest d. star-opens n tokens d.0 rest d.1 d.2 }

-- a test that fails where a pointer begins, and where pointers end, fails before them
pointer-fails : (t : Test) → t Word (codes "addrspace") ≡ false → t Punct (42 ∷ []) ≡ false → (n : ℕ) (tokens middle rest : List Lexeme) → space n tokens middle → mark 42 middle rest → begins t tokens ≡ false
pointer-fails t word-fails star-fails n tokens middle rest (inl d) star =
    let front : Leads never (written_space n) (begins t) = lead-first _ (lead-word (codes "addrspace") t word-fails) in
    front.leads tokens middle d refl
pointer-fails t word-fails star-fails n tokens middle rest (inr d) star =
    let front : Leads never (mark 42) (begins t) = lead-mark 42 t star-fails in
    ap (begins t) d.1 ∙ front.leads middle rest star refl

pub pointer-passes : (t : Test) → t Word (codes "addrspace") ≡ false → t Punct (42 ∷ []) ≡ false → (ns : List ℕ) → Leads (begins t) (each pointer ns) (begins t)
unfolding ◌>>◌
pointer-passes t word-fails star-fails [] = lead-nothing (λ tokens e. e)
pointer-passes t word-fails star-fails (n ∷ ns) = record { leads = λ tokens rest d stop. pointer-fails t word-fails star-fails n tokens d.1.0 d.0 d.1.1 d.1.2 }

unfoldable read_pointers : Reader (List ℕ)
read_pointers = many (begins pointer_start) read_pointer

map-same : {A : Type 0} (xs : List A) → map (λ x. x) xs ≡ xs
map-same [] = refl
map-same (x ∷ xs) = ap (λ ys. x ∷ ys) (map-same xs)

pointers-reads : (ns : List ℕ) → Reads (begins pointer_start) (each pointer ns) read_pointers ns
unfolding read_pointers
pointers-reads ns = at (map-same ns) (each-reads (λ n. n) (λ ts e. e) (λ ts e. refl) pointer-opens (λ n. record { leads = λ tokens rest d stop. refl }) pointer-reads ns)

-- what kind of a type tokens begin with
data Kind : Type 0 where
  voids : Kind
  integers : Kind
  halfs : Kind
  floats : Kind
  doubles : Kind
  named : Kind
  arrays : Kind
  vectors : Kind
  structs : Kind
  packeds : Kind

abbrev word_kind : List ℕ → Kind
word_kind text =
    if is_bits text then integers else (if bytes_eq text (codes "void") then voids else (if bytes_eq text (codes "half") then halfs else
    (if bytes_eq text (codes "float") then floats else doubles)))

bits-kind : (text : List ℕ) → is_bits text ≡ true → word_kind text ≡ integers
bits-kind text e = ap (λ b. if b then integers else (if bytes_eq text (codes "void") then voids else (if bytes_eq text (codes "half") then halfs else (if bytes_eq text (codes "float") then floats else doubles)))) e

-- 91 is `[`, 60 `<`, and 123 `{`
abbrev kind_of : TokenKind → List ℕ → List Lexeme → Kind
kind_of Word text behind = word_kind text
kind_of LocalToken text behind = named
kind_of Punct text behind =
    if bytes_eq text (91 ∷ []) then arrays else (if bytes_eq text (123 ∷ []) then structs else (if begins (is_mark 123) behind then packeds else vectors))
kind_of _ text behind = voids

kind_at : List Lexeme → Kind
kind_at [] = voids
kind_at (l ∷ behind) = kind_of l.kind l.text behind

pub type_with : Reader TypeBase → Reader LlType
type_with inner = bind inner (λ base. to (λ pointers. record { base = base; pointers = pointers }) read_pointers)

abbrev pub comma_ahead : Ahead
comma_ahead = begins (is_mark 44)

pub types_with : Reader TypeBase → Reader (List LlType)
types_with inner = separated (begins operand_start) comma_ahead (type_with inner)

base_with : (NameText → ℕ) → Kind → Reader TypeBase → Reader TypeBase
base_with look voids inner = skip (done Void)
base_with look integers inner = first (λ l. Int (min (decimal_value (drop 1 l.text)) (2 ^ 64 - 1)))
base_with look halfs inner = skip (done Half)
base_with look floats inner = skip (done Float)
base_with look doubles inner = skip (done Double)
base_with look named inner = to Named (read_name look StructName)
base_with look arrays inner = skip (bind read_number (λ n. skip (bind (type_with inner) (λ t. skip (done (Array n t))))))
base_with look vectors inner = skip (bind read_number (λ n. skip (bind (type_with inner) (λ t. skip (done (Vector n t))))))
base_with look structs inner = skip (bind (types_with inner) (λ ts. skip (done (Struct ts))))
base_with look packeds inner = skip (skip (bind (types_with inner) (λ ts. skip (skip (done (Packed ts))))))

pub read_base : (NameText → ℕ) → Reader TypeBase
read_base look zero tokens = (Void, tokens)
read_base look (suc n) tokens = base_with look (kind_at tokens) (λ m ts. read_base look n ts) n tokens

base-step : (look : NameText → ℕ) (kind : Kind) (n : ℕ) (tokens : List Lexeme) → base_with look kind (λ m ts. read_base look n ts) n tokens ≡ base_with look kind (read_base look) n tokens
unfolding base_with bind skip done first to many separated choose type_with types_with
base-step look voids n tokens = refl
base-step look integers n tokens = refl
base-step look halfs n tokens = refl
base-step look floats n tokens = refl
base-step look doubles n tokens = refl
base-step look named n tokens = refl
base-step look arrays n tokens = refl
base-step look vectors n tokens = refl
base-step look structs n tokens = refl
base-step look packeds n tokens = refl

base-found : (look : NameText → ℕ) (kind : Kind) (tokens rest : List Lexeme) (base : TypeBase) → kind_at tokens ≡ kind → Found (base_with look kind (read_base look)) tokens base rest → Found (read_base look) tokens base rest
unfolding read_base
base-found look kind tokens rest base e f = record { fuel = suc f.fuel; is = cases }
  where
    cases : (n : ℕ) → suc f.fuel ≤ n → read_base look n tokens ≡ (base, rest)
    cases zero le = absurd (omega arith)
    cases (suc n) le = ap (λ k. base_with look k (λ m ts. read_base look n ts) n tokens) e ∙ base-step look kind n tokens ∙ f.is n (omega arith)

record IsOfKind (p : Production) (kind : Kind) : Type 0 where
  shows : (tokens rest : List Lexeme) → p tokens rest → kind_at tokens ≡ kind

token-kind : (k : TokenKind) (wanted : Lexeme → Type 0) (kind : Kind) → ((l : Lexeme) (behind : List Lexeme) → wanted l → kind_of k l.text behind ≡ kind) → IsOfKind (token k wanted) kind
unfolding kind_at
token-kind k wanted kind is = record { shows = λ tokens rest d. ap kind_at d.1 ∙ ap (λ k. kind_of k (d.0).text rest) d.2 ∙ is d.0 rest d.3 }

first-kind : {p : Production} {kind : Kind} (q : Production) → IsOfKind p kind → IsOfKind (p >> q) kind
unfolding ◌>>◌
first-kind q one = record { shows = λ tokens rest d. one.shows tokens d.0 d.1 }

word-of-kind : (text : List ℕ) (kind : Kind) → word_kind text ≡ kind → IsOfKind (word text) kind
word-of-kind text kind is = token-kind Word _ kind (λ l behind w. ap word_kind w ∙ is)

mark-of-kind : (code : ℕ) (kind : Kind) → ((behind : List Lexeme) → kind_of Punct (code ∷ []) behind ≡ kind) → IsOfKind (mark code) kind
mark-of-kind code kind is = token-kind Punct _ kind (λ l behind w. ap (λ text. kind_of Punct text behind) w ∙ is behind)

-- a vector's or a packed struct's `<`, by what is behind it
angle-of-kind : (q : Production) (braced : Bool) → ((tokens rest : List Lexeme) → q tokens rest → begins (is_mark 123) tokens ≡ braced) → IsOfKind (mark 60 >> q) (if braced then packeds else vectors)
unfolding ◌>>◌ kind_at
angle-of-kind q braced is = record {
  shows = λ tokens rest d.
      ap kind_at d.1.1 ∙ ap (λ k. kind_of k (d.1.0).text d.0) d.1.2 ∙ ap (λ text. kind_of Punct text d.0) d.1.3 ∙ ap (λ b. if b then packeds else vectors) (is d.0 rest d.2);
}

in-kind : {u : Ahead} {p : Production} {base : TypeBase} (look : NameText → ℕ) (kind : Kind) → IsOfKind p kind → Reads u p (base_with look kind (read_base look)) base → Reads u p (read_base look) base
in-kind {u} {p} {base} look kind is one = record { reads = λ tokens rest d stop. base-found look kind tokens rest base (is.shows tokens rest d) (one.reads tokens rest d stop) }

pub is-true : (b : Bool) → IsTrue b → b ≡ true
is-true b h = grind arith

-- `i` and digits
bits-are : (text digits : List ℕ) → text ≡ 105 ∷ digits → IsTrue (list_all is_ascii_digit digits) → (digits ≡ [] → ⊥) → is_bits text ≡ true
bits-are text [] is all some = absurd (some refl)
bits-are text (digit ∷ digits) is all some = ap is_bits is ∙ is-true _ all

pub base-opens : (names : List NameText) (base : TypeBase) → Opens (type_base names base) (begins operand_start)
base-opens names Void = opens-word (codes "void") operand_start refl
base-opens names (Int bits) = opens-token Word _ operand_start (λ l d. ap (λ b. if b then true else operand_word l.text) (bits-are l.text d.0 d.1 d.2 d.3))
base-opens names Half = opens-word (codes "half") operand_start refl
base-opens names Float = opens-word (codes "float") operand_start refl
base-opens names Double = opens-word (codes "double") operand_start refl
base-opens names (Named name) = opens-token LocalToken _ operand_start (λ l d. refl)
base-opens names (Array' count shape part) = opens-first _ (opens-mark 91 operand_start refl)
base-opens names (Vector' lanes shape part) = opens-first _ (opens-mark 60 operand_start refl)
base-opens names (Struct' shape members) = opens-first _ (opens-mark 123 operand_start refl)
base-opens names (Packed' shape members) = opens-first _ (opens-mark 60 operand_start refl)

pub type-opens : (names : List NameText) (t : LlType) → Opens (ty names t) (begins operand_start)
type-opens names t = opens-first _ (base-opens names t.base)

pub regroup-type : {X : Type 0} {u test : Ahead} {r : Reader X} {xs : List X} (m b ps q : Production) → ReadsMany u (m >> (b >> ps) >> q) test r xs → ReadsMany u (m >> b >> ps >> q) test r xs
unfolding ◌>>◌
regroup-type m b ps q one = record { reads = λ tokens rest d stop. one.reads tokens rest (d.0, d.1, (d.2.2.0, (d.2.0, d.2.1, d.2.2.1), d.2.2.2)) stop }

pub regrouped : {X : Type 0} {u : Ahead} {r : Reader X} {x : X} (p q s : Production) → Reads u ((p >> q) >> s) r x → Reads u (p >> q >> s) r x
unfolding ◌>>◌
regrouped p q s one = record { reads = λ tokens rest d stop. one.reads tokens rest (d.2.0, (d.0, d.1, d.2.1), d.2.2) stop }

array_is : (count : ℕ) (shape : _) (base : TypeBase) (pointers : List ℕ) → Array' count shape (more_of-LlType base pointers end_of-LlType) ≡ Array count (record { base = base; pointers = pointers })
unfolding shape-the_row-LlType-0 hidden-the_row-LlType-0 hidden
array_is count shape base pointers = refl

vector_is : (count : ℕ) (shape : _) (base : TypeBase) (pointers : List ℕ) → Vector' count shape (more_of-LlType base pointers end_of-LlType) ≡ Vector count (record { base = base; pointers = pointers })
unfolding shape-the_row-LlType-0 hidden-the_row-LlType-0 hidden
vector_is count shape base pointers = refl

row-items : (f : Name → Name) (k : Count) (row : Row_of-LlType k) → items-the_row-LlType k (row_changed f row) ≡ map (type_changed f) (items-the_row-LlType k row)
row-items f k end_of-LlType = refl
row-items f k (more_of-LlType base pointers row) = ap (λ later. record { base = base_changed f base; pointers = pointers } ∷ later) (row-items f _ row)

-- what closes a list of types
abbrev pub list_end : Test
list_end = either operand_start (either (is_mark 44) pointer_start)

pub list-no-operand : Weaker (begins list_end) (begins operand_start)
list-no-operand = either-left _ _

pub list-no-comma : Weaker (begins list_end) comma_ahead
list-no-comma tokens e = either-left _ _ tokens (either-right operand_start _ tokens e)

pub list-no-pointer : Weaker (begins list_end) (begins pointer_start)
list-no-pointer tokens e = either-right (is_mark 44) _ tokens (either-right operand_start _ tokens e)

number-no-brace : (n : ℕ) (q : Production) (tokens rest : List Lexeme) → (number n >> q) tokens rest → begins (is_mark 123) tokens ≡ false
number-no-brace n q tokens rest d =
    let front : Leads never (number n >> q) (begins (is_mark 123)) = lead-first _ (lead-kind IntToken _ (is_mark 123) (λ text. refl)) in
    front.leads tokens rest d refl

brace-front : (q : Production) (tokens rest : List Lexeme) → (mark 123 >> q) tokens rest → begins (is_mark 123) tokens ≡ true
brace-front q = (opens-first q (opens-mark 123 (is_mark 123) refl)).opens

pub closed : {X : Type 0} {u : Ahead} {r : Reader X} {x : X} (p q : Production) → Reads u (p >> q) r x → Reads u (p >> q >> nothing) r x
unfolding ◌>>◌
closed p q one = record { reads = λ tokens rest d stop. one.reads tokens rest (d.0, d.1, subst (λ ts. q d.0 ts) d.2.2 d.2.1) stop }

module _ (t : Numbering) where
  behind-lead : {k : Count} (row : Row_of-LlType k) → Leads (begins list_end) (types_behind t.names row) (begins pointer_start)
  behind-lead end_of-LlType = lead-nothing list-no-pointer
  behind-lead (more_of-LlType base pointers row) = lead-first _ (lead-mark 44 _ refl)

  one-reads : (base : TypeBase) (pointers : List ℕ) → Reads never (type_base t.names base) (read_base t.look) (base_changed (renamed t) base) → Reads (begins pointer_start) (types t.names (more_of-LlType base pointers end_of-LlType)) (type_with (read_base t.look)) (record { base = base_changed (renamed t) base; pointers = pointers })
  unfolding type_with
  one-reads base pointers one = closed _ _ (then' _ one (made _ (pointers-reads pointers)))

  mutual
    unfolding base_with type_with types_with

    pub base-reads : {u : Ahead} (base : TypeBase) → Reads u (type_base t.names base) (read_base t.look) (base_changed (renamed t) base)
    base-reads Void = in-kind _ voids (word-of-kind (codes "void") voids refl) (last _ _)
    base-reads Half = in-kind _ halfs (word-of-kind (codes "half") halfs refl) (last _ _)
    base-reads Float = in-kind _ floats (word-of-kind (codes "float") floats refl) (last _ _)
    base-reads Double = in-kind _ doubles (word-of-kind (codes "double") doubles refl) (last _ _)
    base-reads (Int bits) =
        in-kind _ integers (token-kind Word _ integers (λ l behind d. bits-kind l.text (bits-are l.text d.0 d.1 d.2 d.3)))
        (first-reads _ _ _ (λ l kind_is d. ap (λ ds. Int (min (decimal_value (drop 1 ds)) (2 ^ 64 - 1))) d.1 ∙ ap Int (sym d.4)))
    base-reads (Named name) = in-kind _ named (token-kind LocalToken _ named (λ l behind d. refl)) (made Named (name-reads t LocalToken StructName name))
    base-reads (Array' count shape (more_of-LlType base pointers end_of-LlType)) =
        in-kind _ arrays (first-kind _ (mark-of-kind 91 arrays (λ behind. refl)))
        (at (sym (array_is count shape (base_changed (renamed t) base) pointers))
        (skipped _ _ (then' _ (number-reads _) (skipped _ _ (seq _ (one-reads base pointers (base-reads base)) (lead-mark 93 _ refl) (last _ _))))))
    base-reads (Vector' lanes shape (more_of-LlType base pointers end_of-LlType)) =
        in-kind _ vectors (angle-of-kind _ false (number-no-brace lanes _))
        (at (sym (vector_is lanes shape (base_changed (renamed t) base) pointers))
        (skipped _ _ (then' _ (number-reads _) (skipped _ _ (seq _ (one-reads base pointers (base-reads base)) (lead-mark 62 _ refl) (last _ _))))))
    base-reads (Struct' shape members) =
        in-kind _ structs (first-kind _ (mark-of-kind 123 structs (λ behind. refl)))
        (at (ap Struct (sym (row-items (renamed t) _ members)) ∙ sym (struct_from_row shape (row_changed (renamed t) members)))
        (skipped _ _ (seq _ (types-reads members) (lead-mark 125 _ refl) (last _ _))))
    base-reads (Packed' shape members) =
        in-kind _ packeds (angle-of-kind _ true (brace-front _))
        (at (ap Packed (sym (row-items (renamed t) _ members)) ∙ sym (packed_from_row shape (row_changed (renamed t) members)))
        (skipped _ _ (skipped _ _ (seq _ (types-reads members) (lead-first _ (lead-mark 125 _ refl)) (skipped _ _ (last _ _))))))

    types-reads : {k : Count} (row : Row_of-LlType k) → Reads (begins list_end) (types t.names row) (types_with (read_base t.look)) (map (type_changed (renamed t)) (items-the_row-LlType k row))
    types-reads end_of-LlType = separated-none _ _ list-no-operand
    types-reads (more_of-LlType base pointers row) =
        regrouped _ _ _ (separated-more (opens-first _ (base-opens t.names base)) (then' _ (base-reads base) (made _ (pointers-reads pointers))) (behind-lead row) (behind-reads row))

    behind-reads : {k : Count} (row : Row_of-LlType k) → ReadsMany (begins list_end) (types_behind t.names row) comma_ahead (skip (type_with (read_base t.look))) (map (type_changed (renamed t)) (items-the_row-LlType k row))
    behind-reads end_of-LlType = no-more list-no-comma
    behind-reads (more_of-LlType base pointers row) =
        regroup-type _ _ _ _ (one-comma-more (opens-first _ (opens-mark 44 (is_mark 44) refl)) (then' _ (base-reads base) (made _ (pointers-reads pointers))) (behind-lead row) (behind-reads row))

  pub type-reads : (x : LlType) → Reads (begins pointer_start) (ty t.names x) (type_with (read_base t.look)) (type_changed (renamed t) x)
  unfolding type_with
  type-reads x = then' _ (base-reads x.base) (made _ (pointers-reads x.pointers))
