-- Values as readers find them.
use Rattle.std.proofs.Common.{◌≡◌, ℕ, zero, suc, ◌≤◌, Bool, true, false, not, if◌then◌else◌, List, [], ◌∷◌, map, drop, codes, bytes_eq, refl, sym, ap, ◌∙◌, subst, arith}
use mathlib.Core.Former.{Count}
use denote.Hole.Carrier.{hidden, out}
use Rattle.ll_tokens.specs.declared.kinds.TokenKind.{TokenKind}
use Rattle.ll_tokens.specs.declared.kinds.TokenKind.TheVariants.{Word, Punct, Int as IntToken, Local as LocalToken, Global as GlobalToken, CStr}
use Rattle.ll_tokens.specs.Tokens.{Lexeme}
use Rattle.ll_tree.specs.declared.name.Name.{Name}
use Rattle.ll_tree.specs.declared.name.NameKind.TheVariants.{Local as LocalName, Global as GlobalName}
use Rattle.ll_tree.specs.declared.name.NameText.{NameText}
use Rattle.ll_tree.specs.declared.op.CastKind.{CastKind}
use Rattle.ll_tree.specs.declared.op.CastKind.TheVariants.{Trunc, Zext, Sext, PtrToInt, IntToPtr, Bitcast, AddrSpaceCast}
use Rattle.ll_tree.specs.declared.ty.LlType.{LlType}
use Rattle.ll_tree.specs.declared.ty.TypeBase.{TypeBase, Void, Int as IntBase, Half, Float, Double, Named, Array' as ArrayBase', Vector' as VectorBase', Struct' as StructBase', Packed' as PackedBase', Row_of-LlType, end_of-LlType, more_of-LlType}
use Rattle.ll_tree.specs.declared.value.TypedValue.{TypedValue}
use Rattle.ll_tree.specs.declared.value.Value.{Value, Local, Global, Int, Bytes, Bool as Truth, Null, Zero, Undef, Poison, Vector, Array, Struct, Packed, GetElementPtr, Cast, Vector', Array', Struct', Packed', GetElementPtr', Cast', Row_of-TypedValue, end_of-TypedValue, more_of-TypedValue, items-the_row-TypedValue, items_shown-the_row-TypedValue-0}
use Rattle.ll_tree.specs.declared.value.Value.TheViews.{roll-out-Value, roll-Value, out-Value}
use Rattle.ll_tree.specs.declared.value.Value.TheBlock.{shape-the_row-TypedValue-1, hidden-the_row-TypedValue-1}
use Rattle.ll_tree.specs.declared.value.Value.TheVariants.{rolls-Vector, rolls-Array, rolls-Struct, rolls-Packed, rolls-GetElementPtr}
use Rattle.ll_tree.specs.Types.{type_changed}
use Rattle.ll_tree.specs.Values.{value_changed, row_changed, typed_changed}
use Rattle.ll_parser.specs.GrammarTypes.{ty, type_base, types, types_behind, pointer}
use Rattle.ll_parser.specs.GrammarValues.{value, values, values_behind, typed, IsOfConstants, cast_word, only}
use Rattle.ll_parser.specs.Productions.{Production, ◌>>◌, word, mark, each}
use Rattle.ll_parser.specs.Spellings.{integer_value, between_quotes}
use Rattle.ll_one_module.proofs.Readers.{Ahead, Reader, Test, never, begins, done, bind, to, skip, first, choose, many, Found, Reads, Leads, Opens, seq, then', skipped, last, made, at, first-reads}
use Rattle.ll_one_module.proofs.Fronts.{either, is_mark, outside, is_one_of, lead-nothing, lead-then, lead-first, lead-kind, lead-mark, lead-word, lead-outside, opens-first, opens-token, opens-mark, opens-word}
use Rattle.ll_one_module.proofs.Lists.{ReadsMany, all-read, no-more, one-comma-more, only-reads, separated, separated-none, separated-more}
use Rattle.ll_one_module.proofs.NamesFound.{Numbering, read_name, renamed, name-reads}
use Rattle.ll_one_module.proofs.Sorts.{Shows, Settles, by-first, by-second, choose_by, flagged, flag-reads, shows-first, shows-mark, shows-token, shows-word, sort_at}
use Rattle.ll_one_module.proofs.Tests.{operand_start, pointer_start, word_of}
use Rattle.ll_one_module.proofs.TypesFound.{comma_ahead, read_base, regroup-type, regrouped, type-opens, type-reads, type_with, list_end, list-no-comma, list-no-operand, list-no-pointer, closed, pointer-passes}

abbrev pub read_type : (NameText → ℕ) → Reader LlType
read_type look = type_with (read_base look)

-- which sort of value tokens begin with
data Sort : Type 0 where
  locals : Sort
  globals : Sort
  integers : Sort
  texts : Sort
  words : Sort
  arrays : Sort
  structs : Sort
  angles : Sort
  paths : Sort
  casts : Sort

abbrev cast_words : List (List ℕ)
cast_words = codes "ptrtoint" ∷ codes "inttoptr" ∷ codes "bitcast" ∷ codes "addrspacecast" ∷ []

-- 91 is `[` and 123 `{`
abbrev sort_of : TokenKind → List ℕ → Sort
sort_of LocalToken text = locals
sort_of GlobalToken text = globals
sort_of IntToken text = integers
sort_of CStr text = texts
sort_of Word text = if bytes_eq text (codes "getelementptr") then paths else (if is_one_of cast_words text then casts else words)
sort_of Punct text = if bytes_eq text (91 ∷ []) then arrays else (if bytes_eq text (123 ∷ []) then structs else angles)
sort_of _ text = words

abbrev word_value : List ℕ → Value
word_value text =
    if bytes_eq text (codes "true") then Truth true else (if bytes_eq text (codes "false") then Truth false else (if bytes_eq text (codes "null") then Null else
    (if bytes_eq text (codes "zeroinitializer") then Zero else (if bytes_eq text (codes "undef") then Undef else Poison))))

-- the conversion of a word
abbrev pub cast_of : List ℕ → CastKind
cast_of text =
    if bytes_eq text (codes "trunc") then Trunc else (if bytes_eq text (codes "zext") then Zext else (if bytes_eq text (codes "sext") then Sext else
    (if bytes_eq text (codes "ptrtoint") then PtrToInt else (if bytes_eq text (codes "inttoptr") then IntToPtr else (if bytes_eq text (codes "bitcast") then Bitcast else AddrSpaceCast)))))

pub cast-known : (kind : CastKind) → cast_of (cast_word kind) ≡ kind
cast-known Trunc = refl
cast-known Zext = refl
cast-known Sext = refl
cast-known PtrToInt = refl
cast-known IntToPtr = refl
cast-known Bitcast = refl
cast-known AddrSpaceCast = refl

unfoldable pub typed_with : (NameText → ℕ) → Reader Value → Reader TypedValue
typed_with look inner = bind (read_type look) (λ t. to (λ v. record { ty = t; value = v }) inner)

pub values_with : (NameText → ℕ) → Reader Value → Reader (List TypedValue)
values_with look inner = separated (begins operand_start) comma_ahead (typed_with look inner)

abbrev pub closes : ℕ → Test
closes code = outside operand_start (is_mark code)

abbrev ends_member : Test
ends_member = outside operand_start (either (is_mark 44) (is_mark 125))

-- Behind a `<`, whether a packed struct stands there. Where a `{` follows, it is that of a vector's first type, or the packed struct's:
-- behind the first type in it stands a comma or a `}`, or a value
is_packed : (NameText → ℕ) → ℕ → Ahead
is_packed look n tokens =
    if begins (is_mark 123) tokens
    then (if begins (closes 125) (drop 1 tokens) then begins (closes 62) (drop 2 tokens) else not (begins ends_member (read_type look n (drop 1 tokens)).1))
    else false

abbrev inbounds_ahead : Ahead
inbounds_ahead = begins (word_of (codes "inbounds" ∷ []))

value_with : (NameText → ℕ) → Sort → Reader Value → Reader Value
value_with look locals inner = to Local (read_name look LocalName)
value_with look globals inner = to Global (read_name look GlobalName)
value_with look integers inner = first (λ l. Int (integer_value l.text))
value_with look texts inner = first (λ l. Bytes (between_quotes (drop 1 l.text)))
value_with look words inner = first (λ l. word_value l.text)
value_with look arrays inner = skip (bind (values_with look inner) (λ vs. skip (done (Array vs))))
value_with look structs inner = skip (bind (values_with look inner) (λ vs. skip (done (Struct vs))))
value_with look angles inner =
    skip (choose_by (is_packed look) (skip (bind (values_with look inner) (λ vs. skip (skip (done (Packed vs)))))) (bind (values_with look inner) (λ vs. skip (done (Vector vs)))))
value_with look paths inner =
    skip (bind (flagged inbounds_ahead) (λ i. skip (bind (read_type look) (λ t. bind (many comma_ahead (skip (typed_with look inner))) (λ vs. skip (done (GetElementPtr i t vs)))))))
value_with look casts inner =
    bind (first (λ l. cast_of l.text)) (λ kind. skip (bind (typed_with look inner) (λ v. skip (bind (read_type look) (λ t. skip (done (Cast kind v t)))))))

pub read_value : (NameText → ℕ) → Reader Value
read_value look zero tokens = (Null, tokens)
read_value look (suc n) tokens = value_with look (sort_at words sort_of tokens) (λ m ts. read_value look n ts) n tokens

value-step : (look : NameText → ℕ) (sort : Sort) (n : ℕ) (tokens : List Lexeme) → value_with look sort (λ m ts. read_value look n ts) n tokens ≡ value_with look sort (read_value look) n tokens
unfolding value_with bind skip done first to many separated choose choose_by typed_with values_with
value-step look locals n tokens = refl
value-step look globals n tokens = refl
value-step look integers n tokens = refl
value-step look texts n tokens = refl
value-step look words n tokens = refl
value-step look arrays n tokens = refl
value-step look structs n tokens = refl
value-step look angles n tokens = refl
value-step look paths n tokens = refl
value-step look casts n tokens = refl

value-found : (look : NameText → ℕ) (sort : Sort) (tokens rest : List Lexeme) (v : Value) → sort_at words sort_of tokens ≡ sort → Found (value_with look sort (read_value look)) tokens v rest → Found (read_value look) tokens v rest
unfolding read_value
value-found look sort tokens rest v e f = record { fuel = suc f.fuel; is = cases }
  where
    cases : (n : ℕ) → suc f.fuel ≤ n → read_value look n tokens ≡ (v, rest)
    cases zero le = absurd (omega arith)
    cases (suc n) le = ap (λ s. value_with look s (λ m ts. read_value look n ts) n tokens) e ∙ value-step look sort n tokens ∙ f.is n (omega arith)

in-sort : {u : Ahead} {p : Production} {v : Value} (look : NameText → ℕ) (sort : Sort) → Shows (sort_at words sort_of) p sort → Reads u p (value_with look sort (read_value look)) v → Reads u p (read_value look) v
in-sort {u} {p} {v} look sort is one = record { reads = λ tokens rest d stop. value-found look sort tokens rest v (is.shows tokens rest d) (one.reads tokens rest d stop) }

cast-opens : (kind : CastKind) → IsOfConstants kind → operand_start Word (cast_word kind) ≡ true
cast-opens Trunc none' = absurd none'
cast-opens Zext none' = absurd none'
cast-opens Sext none' = absurd none'
cast-opens PtrToInt one = refl
cast-opens IntToPtr one = refl
cast-opens Bitcast one = refl
cast-opens AddrSpaceCast one = refl

cast-sort : (kind : CastKind) → IsOfConstants kind → sort_of Word (cast_word kind) ≡ casts
cast-sort Trunc none' = absurd none'
cast-sort Zext none' = absurd none'
cast-sort Sext none' = absurd none'
cast-sort PtrToInt one = refl
cast-sort IntToPtr one = refl
cast-sort Bitcast one = refl
cast-sort AddrSpaceCast one = refl

opens-only : {test : Ahead} (condition : Type 0) (p : Production) → (condition → Opens p test) → Opens (only condition p) test
opens-only condition p one = record { opens = λ tokens rest d. (one d.0).opens tokens rest d.1 }

shows-only : {S : Type 0} {sort : List Lexeme → S} {s : S} (condition : Type 0) (p : Production) → (condition → Shows sort p s) → Shows sort (only condition p) s
shows-only condition p one = record { shows = λ tokens rest d. (one d.0).shows tokens rest d.1 }

pub value-opens : (names : List NameText) (v : Value) (t : LlType) → Opens (value names v t) (begins operand_start)
value-opens names (Local name) t = opens-token LocalToken _ operand_start (λ l d. refl)
value-opens names (Global name) t = opens-token GlobalToken _ operand_start (λ l d. refl)
value-opens names (Int number) t = opens-token IntToken _ operand_start (λ l d. refl)
value-opens names (Bytes bytes) t = opens-token CStr _ operand_start (λ l d. refl)
value-opens names (Truth true) t = opens-word (codes "true") operand_start refl
value-opens names (Truth false) t = opens-word (codes "false") operand_start refl
value-opens names Null t = opens-word (codes "null") operand_start refl
value-opens names Zero t = opens-word (codes "zeroinitializer") operand_start refl
value-opens names Undef t = opens-word (codes "undef") operand_start refl
value-opens names Poison t = opens-word (codes "poison") operand_start refl
value-opens names (Vector' shape parts) t = opens-first _ (opens-mark 60 operand_start refl)
value-opens names (Array' shape parts) t = opens-first _ (opens-mark 91 operand_start refl)
value-opens names (Struct' shape parts) t = opens-first _ (opens-mark 123 operand_start refl)
value-opens names (Packed' shape parts) t = opens-first _ (opens-mark 60 operand_start refl)
value-opens names (GetElementPtr' inbounds through shape operands) t = opens-first _ (opens-word (codes "getelementptr") operand_start refl)
value-opens names (Cast' kind shape operand to) t = opens-first _ (opens-only _ _ (λ c. opens-word (cast_word kind) operand_start (cast-opens kind c)))

pub typed-opens : (names : List NameText) (v : TypedValue) → Opens (typed names v) (begins operand_start)
typed-opens names v = opens-first _ (type-opens names v.ty)

vector_from_row : (shape : List (Unit {0})) (row : Row_of-TypedValue _) → Vector' shape row ≡ Vector (items-the_row-TypedValue _ row)
unfolding out-Value roll-Value out
vector_from_row shape row = sym (roll-out-Value (Vector' shape row)) ∙ (rolls-Vector _ ∙ ap Vector (items_shown-the_row-TypedValue-0 shape row))

array_from_row : (shape : List (Unit {0})) (row : Row_of-TypedValue _) → Array' shape row ≡ Array (items-the_row-TypedValue _ row)
unfolding out-Value roll-Value out
array_from_row shape row = sym (roll-out-Value (Array' shape row)) ∙ (rolls-Array _ ∙ ap Array (items_shown-the_row-TypedValue-0 shape row))

struct_from_row : (shape : List (Unit {0})) (row : Row_of-TypedValue _) → Struct' shape row ≡ Struct (items-the_row-TypedValue _ row)
unfolding out-Value roll-Value out
struct_from_row shape row = sym (roll-out-Value (Struct' shape row)) ∙ (rolls-Struct _ ∙ ap Struct (items_shown-the_row-TypedValue-0 shape row))

packed_from_row : (shape : List (Unit {0})) (row : Row_of-TypedValue _) → Packed' shape row ≡ Packed (items-the_row-TypedValue _ row)
unfolding out-Value roll-Value out
packed_from_row shape row = sym (roll-out-Value (Packed' shape row)) ∙ (rolls-Packed _ ∙ ap Packed (items_shown-the_row-TypedValue-0 shape row))

path_from_row : (inbounds : _) (t : LlType) (shape : List (Unit {0})) (row : Row_of-TypedValue _) → GetElementPtr' inbounds t shape row ≡ GetElementPtr inbounds t (items-the_row-TypedValue _ row)
unfolding out-Value roll-Value out
path_from_row inbounds t shape row =
    sym (roll-out-Value (GetElementPtr' inbounds t shape row)) ∙ (rolls-GetElementPtr inbounds t _ ∙ ap (GetElementPtr inbounds t) (items_shown-the_row-TypedValue-0 shape row))

cast_is : (kind : CastKind) (shape : _) (t : LlType) (v : Value) (to : LlType) → Cast' kind shape (more_of-TypedValue t v end_of-TypedValue) to ≡ Cast kind (record { ty = t; value = v }) to
unfolding shape-the_row-TypedValue-1 hidden-the_row-TypedValue-1 hidden
cast_is kind shape t v to = refl

row-items : (f : Name → Name) (g : LlType → LlType) (k : Count) (row : Row_of-TypedValue k) → items-the_row-TypedValue k (row_changed f g row) ≡ map (typed_changed f g) (items-the_row-TypedValue k row)
row-items f g k end_of-TypedValue = refl
row-items f g k (more_of-TypedValue t v row) = ap (λ later. typed_changed f g (record { ty = t; value = v }) ∷ later) (row-items f g _ row)

-- whether a packed struct stands behind a `<`
packed-by : (look : NameText → ℕ) (n : ℕ) (tokens behind : List Lexeme) → mark 123 tokens behind → is_packed look n tokens ≡ (if begins (closes 125) behind then begins (closes 62) (drop 1 behind) else not (begins ends_member (read_type look n behind).1))
unfolding is_packed begins
packed-by look n tokens behind d =
    ap (is_packed look n) d.1 ∙
    ap (λ b. if b then (if begins (closes 125) behind then begins (closes 62) (drop 1 behind) else not (begins ends_member (read_type look n behind).1)) else false)
    (ap (λ k. is_mark 123 k (d.0).text) d.2 ∙ ap (is_mark 123 Punct) d.3)

settle-end : (look : NameText → ℕ) (b : Bool) (tokens behind end : List Lexeme) → mark 123 tokens behind → mark 125 behind end → begins (closes 62) end ≡ b → Settles (is_packed look) tokens b
settle-end look b tokens behind end brace close e =
    let closing : begins (closes 125) behind ≡ true = (opens-mark 125 (closes 125) refl).opens behind end close in
    record {
      fuel = 0;
      is = λ n le. packed-by look n tokens behind brace
          ∙ ap (λ c. if c then begins (closes 62) (drop 1 behind) else not (begins ends_member (read_type look n behind).1)) closing
          ∙ ap (λ (ts : List Lexeme). begins (closes 62) (drop 1 ts)) close.1 ∙ e;
    }

settle-type : (t : Numbering) (b : Bool) (x : LlType) (tokens behind middle : List Lexeme) → mark 123 tokens behind → ty t.names x behind middle → begins pointer_start middle ≡ false → begins ends_member middle ≡ b → Settles (is_packed t.look) tokens (not b)
settle-type t b x tokens behind middle brace d none' e =
    let front : Leads never (ty t.names x) (begins (closes 125)) = lead-outside operand_start (is_mark 125) (type-opens t.names x) in
    let open' : begins (closes 125) behind ≡ false = front.leads behind middle d refl in
    let found : Found (read_type t.look) behind (type_changed (renamed t) x) middle = (type-reads t x).reads behind middle d none' in
    record {
      fuel = found.fuel;
      is = λ n le. packed-by t.look n tokens behind brace
          ∙ ap (λ c. if c then begins (closes 62) (drop 1 behind) else not (begins ends_member (read_type t.look n behind).1)) open'
          ∙ ap (λ (q : LlType × List Lexeme). not (begins ends_member q.1)) (found.is n le) ∙ ap not e;
    }

settle-none : (look : NameText → ℕ) (tokens : List Lexeme) → begins (is_mark 123) tokens ≡ false → Settles (is_packed look) tokens false
unfolding is_packed
settle-none look tokens e = record {
  fuel = 0;
  is = λ n le. ap (λ b. if b then (if begins (closes 125) (drop 1 tokens) then begins (closes 62) (drop 2 tokens) else not (begins ends_member (read_type look n (drop 1 tokens)).1)) else false) e;
}

packed-settles : (t : Numbering) {k : Count} (row : Row_of-TypedValue k) (tokens rest : List Lexeme) → (mark 123 >> values t.names row >> mark 125 >> mark 62) tokens rest → Settles (is_packed t.look) tokens true
unfolding ◌>>◌
packed-settles t end_of-TypedValue tokens rest (a, brace, (b, same, (c, close, angle))) =
    settle-end t.look true tokens a c brace (subst (λ ls. mark 125 ls c) (sym same) close) ((opens-mark 62 (closes 62) refl).opens c rest angle)
packed-settles t (more_of-TypedValue x v row) tokens rest (a, brace, (b, (c, d, (e, here, more)), close)) =
    let pointers : Leads never (value t.names v x) (begins pointer_start) = lead-outside operand_start _ (value-opens t.names v x) in
    let ends : Leads never (value t.names v x) (begins ends_member) = lead-outside operand_start _ (value-opens t.names v x) in
    settle-type t false x tokens a c brace d (pointers.leads c e here refl) (ends.leads c e here refl)

member-ends : (names : List NameText) {k : Count} (row : Row_of-LlType k) (tokens middle rest : List Lexeme) → types_behind names row tokens middle → mark 125 middle rest → (begins pointer_start tokens ≡ false) × (begins ends_member tokens ≡ true)
unfolding ◌>>◌
member-ends names end_of-LlType tokens middle rest same close =
    let front : Leads never (mark 125) (begins pointer_start) = lead-mark 125 _ refl in
    let here : mark 125 tokens rest = subst (λ ls. mark 125 ls rest) (sym same) close in
    (front.leads tokens rest here refl, (opens-mark 125 ends_member refl).opens tokens rest here)
member-ends names (more_of-LlType base pointers row) tokens middle rest d close =
    let front : Leads never (mark 44) (begins pointer_start) = lead-mark 44 _ refl in
    (front.leads tokens d.0 d.1 refl, (opens-mark 44 ends_member refl).opens tokens d.0 d.1)

no-brace : (look : NameText → ℕ) (p : Production) → Leads never p (begins (is_mark 123)) → (tokens rest : List Lexeme) → p tokens rest → Settles (is_packed look) tokens false
no-brace look p front tokens rest d = settle-none look tokens (front.leads tokens rest d refl)

bits-no-brace : (bits : ℕ) (names : List NameText) → Leads never (type_base names (IntBase bits)) (begins (is_mark 123))
bits-no-brace bits names = lead-kind Word _ _ (λ text. refl)

-- the members of the first type of a vector
members-settle : (t : Numbering) {k : Count} (row : Row_of-LlType k) (tokens a b middle : List Lexeme) → mark 123 tokens a → types t.names row a b → mark 125 b middle → begins (closes 62) middle ≡ false → Settles (is_packed t.look) tokens false
unfolding ◌>>◌
members-settle t end_of-LlType tokens a b middle brace same close fails = settle-end t.look false tokens a middle brace (subst (λ ls. mark 125 ls middle) (sym same) close) fails
members-settle t (more_of-LlType base inner row) tokens a b middle brace (c, d, (e, qs, more)) close fails =
    let ends = member-ends t.names row e b middle more close in
    settle-type t true (record { base = base; pointers = inner }) tokens a e brace (c, d, qs) ends.0 ends.1

-- the first type of a vector
lane-settles : (t : Numbering) (base : TypeBase) (pointers : List ℕ) (v : Value) (x : LlType) (tokens middle behind rest : List Lexeme) → type_base t.names base tokens middle → each pointer pointers middle behind → value t.names v x behind rest → Settles (is_packed t.look) tokens false
unfolding ◌>>◌
lane-settles t Void pointers v x tokens middle behind rest d ps here = no-brace t.look _ (lead-word (codes "void") _ refl) tokens middle d
lane-settles t (IntBase bits) pointers v x tokens middle behind rest d ps here = no-brace t.look _ (bits-no-brace bits t.names) tokens middle d
lane-settles t Half pointers v x tokens middle behind rest d ps here = no-brace t.look _ (lead-word (codes "half") _ refl) tokens middle d
lane-settles t Float pointers v x tokens middle behind rest d ps here = no-brace t.look _ (lead-word (codes "float") _ refl) tokens middle d
lane-settles t Double pointers v x tokens middle behind rest d ps here = no-brace t.look _ (lead-word (codes "double") _ refl) tokens middle d
lane-settles t (Named name) pointers v x tokens middle behind rest d ps here = no-brace t.look (type_base t.names (Named name)) (lead-kind LocalToken _ _ (λ text. refl)) tokens middle d
lane-settles t (ArrayBase' count shape part) pointers v x tokens middle behind rest d ps here = no-brace t.look (mark 91) (lead-mark 91 _ refl) tokens d.0 d.1
lane-settles t (VectorBase' count shape part) pointers v x tokens middle behind rest d ps here = no-brace t.look (mark 60) (lead-mark 60 _ refl) tokens d.0 d.1
lane-settles t (PackedBase' shape members) pointers v x tokens middle behind rest d ps here = no-brace t.look (mark 60) (lead-mark 60 _ refl) tokens d.0 d.1
lane-settles t (StructBase' shape members) pointers v x tokens middle behind rest (a, brace, (b, inner, close)) ps here =
    let front : Leads never (value t.names v x) (begins (closes 62)) = lead-outside operand_start _ (value-opens t.names v x) in
    members-settle t members tokens a b middle brace inner close ((pointer-passes (closes 62) refl refl pointers).leads middle behind ps (front.leads behind rest here refl))

vector-settles : (t : Numbering) {k : Count} (row : Row_of-TypedValue k) (tokens rest : List Lexeme) → (values t.names row >> mark 62) tokens rest → Settles (is_packed t.look) tokens false
unfolding ◌>>◌
vector-settles t end_of-TypedValue tokens rest (a, same, angle) = no-brace t.look (mark 62) (lead-mark 62 _ refl) tokens rest (subst (λ ls. mark 62 ls rest) (sym same) angle)
vector-settles t (more_of-TypedValue x v row) tokens rest (a, (b, d, (c, here, more)), angle) = lane-settles t x.base x.pointers v x tokens d.0 b c d.1 d.2 here

pub lead-only : {u test : Ahead} (condition : Type 0) (p : Production) → Leads u p test → Leads u (only condition p) test
lead-only condition p one = record { leads = λ tokens rest d stop. one.leads tokens rest d.1 stop }

word-reads : {u : Ahead} (text : List ℕ) (v : Value) → word_value text ≡ v → Reads u (word text) (first (λ l. word_value l.text)) v
word-reads text v is = first-reads _ _ _ (λ l k w. ap word_value w ∙ is)

module _ (t : Numbering) where
  abbrev pub change : LlType → LlType
  change = type_changed (renamed t)

  abbrev pub changed : Value → Value
  changed = value_changed (renamed t) (type_changed (renamed t))

  behind-lead : {k : Count} (row : Row_of-TypedValue k) → Leads (begins list_end) (values_behind t.names row) (begins pointer_start)
  behind-lead end_of-TypedValue = lead-nothing list-no-pointer
  behind-lead (more_of-TypedValue x v row) = lead-first _ (lead-mark 44 _ refl)

  behind-never : {k : Count} (row : Row_of-TypedValue k) → Leads (begins list_end) (values_behind t.names row) never
  behind-never row = record { leads = λ tokens rest d stop. refl }

  typed-at : {u : Ahead} (x : LlType) (v : Value) → Reads u (value t.names v x) (read_value t.look) (changed v) → Reads u (ty t.names x >> value t.names v x) (typed_with t.look (read_value t.look)) (record { ty = change x; value = changed v })
  unfolding typed_with
  typed-at x v one = seq _ (type-reads t x) (lead-outside operand_start _ (value-opens t.names v x)) (made _ one)

  mutual
    unfolding value_with values_with

    pub value-reads : {u : Ahead} (v : Value) (x : LlType) → Reads u (value t.names v x) (read_value t.look) (changed v)
    value-reads (Local name) x = in-sort _ locals (shows-token words sort_of LocalToken _ locals (λ l d. refl)) (made Local (name-reads t LocalToken LocalName name))
    value-reads (Global name) x = in-sort _ globals (shows-token words sort_of GlobalToken _ globals (λ l d. refl)) (made Global (name-reads t GlobalToken GlobalName name))
    value-reads (Int number) x = in-sort _ integers (shows-token words sort_of IntToken _ integers (λ l d. refl)) (first-reads _ _ _ (λ l k d. ap Int d.0))
    value-reads (Bytes bytes) x = in-sort _ texts (shows-token words sort_of CStr _ texts (λ l d. refl)) (first-reads _ _ _ (λ l k d. ap Bytes d))
    value-reads (Truth true) x = in-sort _ words (shows-word words sort_of (codes "true") words refl) (word-reads (codes "true") (Truth true) refl)
    value-reads (Truth false) x = in-sort _ words (shows-word words sort_of (codes "false") words refl) (word-reads (codes "false") (Truth false) refl)
    value-reads Null x = in-sort _ words (shows-word words sort_of (codes "null") words refl) (word-reads (codes "null") Null refl)
    value-reads Zero x = in-sort _ words (shows-word words sort_of (codes "zeroinitializer") words refl) (word-reads (codes "zeroinitializer") Zero refl)
    value-reads Undef x = in-sort _ words (shows-word words sort_of (codes "undef") words refl) (word-reads (codes "undef") Undef refl)
    value-reads Poison x = in-sort _ words (shows-word words sort_of (codes "poison") words refl) (word-reads (codes "poison") Poison refl)
    value-reads (Vector' shape parts) x =
        in-sort _ angles (shows-first _ (shows-mark words sort_of 60 angles refl))
        (at (ap Vector (sym (row-items (renamed t) change _ parts)) ∙ sym (vector_from_row shape (row_changed (renamed t) change parts)))
        (skipped _ _ (by-second _ _ (vector-settles t parts) (seq _ (values-reads parts) (lead-mark 62 _ refl) (last _ _)))))
    value-reads (Packed' shape parts) x =
        in-sort _ angles (shows-first _ (shows-mark words sort_of 60 angles refl))
        (at (ap Packed (sym (row-items (renamed t) change _ parts)) ∙ sym (packed_from_row shape (row_changed (renamed t) change parts)))
        (skipped _ _ (by-first _ _ (packed-settles t parts) (skipped _ _ (seq _ (values-reads parts) (lead-first _ (lead-mark 125 _ refl)) (skipped _ _ (last _ _)))))))
    value-reads (Array' shape parts) x =
        in-sort _ arrays (shows-first _ (shows-mark words sort_of 91 arrays refl))
        (at (ap Array (sym (row-items (renamed t) change _ parts)) ∙ sym (array_from_row shape (row_changed (renamed t) change parts)))
        (skipped _ _ (seq _ (values-reads parts) (lead-mark 93 _ refl) (last _ _))))
    value-reads (Struct' shape parts) x =
        in-sort _ structs (shows-first _ (shows-mark words sort_of 123 structs refl))
        (at (ap Struct (sym (row-items (renamed t) change _ parts)) ∙ sym (struct_from_row shape (row_changed (renamed t) change parts)))
        (skipped _ _ (seq _ (values-reads parts) (lead-mark 125 _ refl) (last _ _))))
    value-reads (GetElementPtr' inbounds through shape operands) x =
        in-sort _ paths (shows-first _ (shows-word words sort_of (codes "getelementptr") paths refl))
        (at (ap (GetElementPtr inbounds (change through)) (sym (row-items (renamed t) change _ operands)) ∙ sym (path_from_row inbounds (change through) shape (row_changed (renamed t) change operands)))
        (skipped _ _ (seq _ (flag-reads inbounds_ahead (codes "inbounds") (opens-word (codes "inbounds") _ refl) (λ ts e. e) inbounds) (lead-first _ (lead-mark 40 _ refl))
        (skipped _ _ (seq _ (type-reads t through) (lead-then (lead-only _ _ (behind-lead operands)) (lead-mark 41 _ refl))
        (seq _ (only-reads _ _ (λ c. all-read (behind-reads operands))) (lead-mark 41 _ refl) (last _ _)))))))
    value-reads (Cast' kind shape (more_of-TypedValue y v end_of-TypedValue) to') x =
        in-sort _ casts (shows-first _ (shows-only _ _ (λ c. shows-word words sort_of (cast_word kind) casts (cast-sort kind c))))
        (at (sym (cast_is kind shape (change y) (changed v) (change to')))
        (then' _ (only-reads _ _ (λ c. first-reads _ Word _ (λ l k w. ap cast_of w ∙ cast-known kind)))
        (skipped _ _ (then' _ (closed _ _ (typed-at y v (value-reads v y)))
        (skipped _ _ (seq _ (type-reads t to') (lead-mark 41 _ refl) (last _ _)))))))

    values-reads : {k : Count} (row : Row_of-TypedValue k) → Reads (begins list_end) (values t.names row) (values_with t.look (read_value t.look)) (map (typed_changed (renamed t) change) (items-the_row-TypedValue k row))
    values-reads end_of-TypedValue = separated-none _ _ list-no-operand
    values-reads (more_of-TypedValue x v row) =
        regrouped _ _ _ (separated-more (opens-first _ (type-opens t.names x)) (typed-at x v (value-reads v x)) (behind-never row) (behind-reads row))

    behind-reads : {k : Count} (row : Row_of-TypedValue k) → ReadsMany (begins list_end) (values_behind t.names row) comma_ahead (skip (typed_with t.look (read_value t.look))) (map (typed_changed (renamed t) change) (items-the_row-TypedValue k row))
    behind-reads end_of-TypedValue = no-more list-no-comma
    behind-reads (more_of-TypedValue x v row) =
        regroup-type _ _ _ _ (one-comma-more (opens-first _ (opens-mark 44 (is_mark 44) refl)) (typed-at x v (value-reads v x)) (behind-never row) (behind-reads row))

  abbrev pub read_typed : Reader TypedValue
  read_typed = typed_with t.look (read_value t.look)

  pub typed-reads : {u : Ahead} (v : TypedValue) → Reads u (typed t.names v) read_typed (typed_changed (renamed t) change v)
  typed-reads v = typed-at v.ty v.value (value-reads v.value v.ty)
