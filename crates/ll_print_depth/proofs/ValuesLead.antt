-- The walk over brackets goes through values.
use Rattle.std.proofs.Common.{◌≡◌, ℕ, ℤ, ◌==◌, Bool, true, false, not, List, codes, refl, ap, ◌∙◌}
use Rattle.std.specs.Prelude.{bytes_eq, if◌then◌else◌}
use Rattle.std.specs.Fmt.{signed_decimal}
use Rattle.ll_tokens.specs.declared.kinds.TokenKind.TheVariants.{CStr, Global as GlobalToken, Int as IntToken, Local as LocalToken}
use Rattle.ll_tokens.specs.Tokens.{Lexeme}
use Rattle.ll_tree.specs.declared.name.Name.{Name}
use Rattle.ll_tree.specs.declared.name.NameText.{NameText}
use Rattle.ll_tree.specs.declared.op.CastKind.{CastKind}
use Rattle.ll_tree.specs.declared.op.CastKind.TheVariants.{Trunc, Zext, Sext, PtrToInt, IntToPtr, Bitcast, AddrSpaceCast}
use Rattle.ll_tree.specs.declared.ty.LlType.{LlType}
use Rattle.ll_tree.specs.declared.value.TypedValue.{TypedValue}
use Rattle.ll_tree.specs.declared.value.Value.{Value, Local, Global, Int, Bytes, Bool as Truth, Null, Zero, Undef, Poison, Vector', Array', Struct', Packed', GetElementPtr', Cast', Row_of-TypedValue, end_of-TypedValue, more_of-TypedValue}
use Rattle.ll_parser.specs.GrammarValues.{cast_word, global, if_word, integer, local, typed, value, values, values_behind}
use Rattle.ll_parser.specs.Productions.{◌>>◌, mark}
use Rattle.ll_types.specs.declared.nesting.Bracket.TheVariants.{Counted, Uncounted}
use Rattle.ll_types.specs.Nesting.{bracket_of, first_mark}
use Rattle.ll_phrases.specs.Phrases.{Mark, Solid, ◌&◌, comma, spelled}
use Rattle.ll_phrases.specs.Texts.{global_phrase, local_phrase}
use Rattle.ll_phrases.specs.ValuePhrases.{fields_phrase, typed_phrase, value_phrase, values_behind as behind_phrase, values_phrase, word_behind}
use Rattle.ll_print_depth.proofs.Passing.{Leads, closing-leads, counted-leads, empty-leads, gap-leads, leads-gap, mark-mark, mark-passes, opened, opening-leads, then-leads, token-leads, word-leads}
use Rattle.ll_print_depth.proofs.TypesLead.{base-mark, begin_code, quiet-bytes, quiet-global, quiet-int, quiet-local, type-leads, written-mark}

-- a `<` is counted but before `{`, 123
abbrev is_counted : ℕ → Bool
is_counted code = not (code == 123)

angle : (code : ℕ) → bracket_of 60 code ≡ opened (is_counted code)
angle code = by-test (code == 123)
  where
    by-test : (test : Bool) → (if test then Uncounted else Counted) ≡ opened (not test)
    by-test true = refl
    by-test false = refl

pub comma-leads : {a : List Bool} (tokens rest : List Lexeme) → mark 44 tokens rest → Leads a a tokens rest comma
comma-leads tokens rest is = leads-gap (mark-passes 44 tokens rest (λ next. refl) is)

pub if-word-leads : {a : List Bool} (text : List ℕ) (is : Bool) (tokens rest : List Lexeme) → bytes_eq text (codes "attributes") ≡ false → if_word text is tokens rest → Leads a a tokens rest (word_behind text is)
if-word-leads text true tokens rest isnt d = gap-leads (word-leads text tokens rest isnt d)
if-word-leads text false tokens rest isnt same = empty-leads same

pub cast-no-group : (kind : CastKind) → bytes_eq (cast_word kind) (codes "attributes") ≡ false
cast-no-group Trunc = refl
cast-no-group Zext = refl
cast-no-group Sext = refl
cast-no-group PtrToInt = refl
cast-no-group IntToPtr = refl
cast-no-group Bitcast = refl
cast-no-group AddrSpaceCast = refl

pub integer-leads : {a : List Bool} (t : LlType) (n : ℤ) (tokens rest : List Lexeme) → integer t n tokens rest → Leads a a tokens rest (Solid IntToken (signed_decimal n))
integer-leads t n tokens rest d = token-leads IntToken _ _ tokens rest quiet-int d

-- the mark behind `<`: that of the first type, or `>`, 62
abbrev row_code : {n : _} → Row_of-TypedValue n → ℕ
row_code end_of-TypedValue = 62
row_code (more_of-TypedValue t v row) = begin_code t.base

module _ (names : List NameText) where
  pub local-leads : {a : List Bool} (name : Name) (tokens rest : List Lexeme) → local names name tokens rest → Leads a a tokens rest (local_phrase names name)
  local-leads name tokens rest d = token-leads LocalToken _ _ tokens rest quiet-local d

  pub global-leads : {a : List Bool} (name : Name) (tokens rest : List Lexeme) → global names name tokens rest → Leads a a tokens rest (global_phrase names name)
  global-leads name tokens rest d = token-leads GlobalToken _ _ tokens rest quiet-global d

  row-mark : {n : _} (row : Row_of-TypedValue n) (tokens m rest : List Lexeme) → values names row tokens m → mark 62 m rest → first_mark tokens ≡ row_code row
  unfolding ◌>>◌
  row-mark end_of-TypedValue tokens m rest same closes = ap first_mark same ∙ mark-mark 62 m rest closes
  row-mark (more_of-TypedValue t v row) tokens m rest (p, (q, base, ps), more) closes = base-mark names t.base tokens q base

  row-written : {n : _} (row : Row_of-TypedValue n) (tokens rest : List Lexeme) → spelled (values_phrase names row & Mark 62) tokens rest → first_mark tokens ≡ row_code row
  unfolding ◌>>◌
  row-written end_of-TypedValue tokens rest (m, same, closes) = ap first_mark same ∙ mark-mark 62 m rest closes
  row-written (more_of-TypedValue t v row) tokens rest (m, ((q, (r, base, ps), more)), closes) = written-mark names t.base tokens r base

  mutual
    unfolding ◌>>◌

    pub value-leads : {a : List Bool} (v : Value) (t : LlType) (tokens rest : List Lexeme) → value names v t tokens rest → Leads a a tokens rest (value_phrase names v)
    value-leads (Local name) t tokens rest d = local-leads name tokens rest d
    value-leads (Global name) t tokens rest d = global-leads name tokens rest d
    value-leads (Int number) t tokens rest d = integer-leads t number tokens rest d
    value-leads (Bytes bytes) t tokens rest d = token-leads CStr _ _ tokens rest quiet-bytes d
    value-leads (Truth true) t tokens rest d = word-leads (codes "true") tokens rest refl d
    value-leads (Truth false) t tokens rest d = word-leads (codes "false") tokens rest refl d
    value-leads Null t tokens rest d = word-leads (codes "null") tokens rest refl d
    value-leads Zero t tokens rest d = word-leads (codes "zeroinitializer") tokens rest refl d
    value-leads Undef t tokens rest d = word-leads (codes "undef") tokens rest refl d
    value-leads Poison t tokens rest d = word-leads (codes "poison") tokens rest refl d
    value-leads (Vector' shape parts) t tokens rest (p, opens, (q, inside, closes)) =
        opening-leads (is_counted (row_code parts)) 60 tokens p rest (ap (bracket_of 60) (row-mark parts p q rest inside closes) ∙ angle (row_code parts))
        (λ ts after is. ap (bracket_of 60) (row-written parts ts after is) ∙ angle (row_code parts)) opens
        (then-leads (values-lead parts p q inside) (closing-leads (is_counted (row_code parts)) 62 q rest (λ next. refl) closes))
    value-leads (Array' shape parts) t tokens rest (p, opens, (q, inside, closes)) =
        counted-leads 91 tokens p rest (λ next. refl) opens (then-leads (values-lead parts p q inside) (closing-leads true 93 q rest (λ next. refl) closes))
    value-leads (Struct' shape parts) t tokens rest (p, opens, (q, inside, closes)) =
        counted-leads 123 tokens p rest (λ next. refl) opens (then-leads (fields-lead parts p q inside) (closing-leads true 125 q rest (λ next. refl) closes))
    value-leads (Packed' shape parts) t tokens rest (z, less, (p, opens, (q, inside, (r, closes, more)))) =
        opening-leads false 60 tokens z rest (ap (bracket_of 60) (mark-mark 123 z p opens)) (λ ts after (m, is, there). ap (bracket_of 60) (mark-mark 123 ts m is)) less
        (counted-leads 123 z p rest (λ next. refl) opens (then-leads (fields-lead parts p q inside) (then-leads (closing-leads true 125 q r (λ next. refl) closes) (closing-leads false 62 r rest (λ next. refl) more))))
    value-leads (GetElementPtr' inbounds through shape operands) t tokens rest (p, w, (q, i, (r, opens, (s, steps, (u, (enough, inside), closes))))) =
        then-leads (word-leads (codes "getelementptr") tokens p refl w) (then-leads (if-word-leads (codes "inbounds") inbounds p q refl i)
        (gap-leads (counted-leads 40 q r rest (λ next. refl) opens (then-leads (type-leads names through r s steps) (then-leads (values-behind-lead operands s u inside) (closing-leads true 41 u rest (λ next. refl) closes))))))
    value-leads (Cast' kind shape operand to) t tokens rest (p, (allowed, w), (q, opens, (r, inside, (s, word_to, (u, is, closes))))) =
        then-leads (word-leads (cast_word kind) tokens p (cast-no-group kind) w)
        (gap-leads (counted-leads 40 p q rest (λ next. refl) opens (then-leads (values-lead operand q r inside)
        (gap-leads (then-leads (word-leads (codes "to") r s refl word_to) (gap-leads (then-leads (type-leads names to s u is) (closing-leads true 41 u rest (λ next. refl) closes))))))))

    pub values-lead : {a : List Bool} {n : _} (row : Row_of-TypedValue n) (tokens rest : List Lexeme) → values names row tokens rest → Leads a a tokens rest (values_phrase names row)
    values-lead end_of-TypedValue tokens rest same = empty-leads same
    values-lead (more_of-TypedValue t v row) tokens rest (p, is, (q, has, more)) =
        then-leads (type-leads names t tokens p is) (gap-leads (then-leads (value-leads v t p q has) (values-behind-lead row q rest more)))

    fields-lead : {a : List Bool} {n : _} (row : Row_of-TypedValue n) (tokens rest : List Lexeme) → values names row tokens rest → Leads a a tokens rest (fields_phrase names row)
    fields-lead end_of-TypedValue tokens rest same = empty-leads same
    fields-lead (more_of-TypedValue t v row) tokens rest (p, is, (q, has, more)) =
        gap-leads (then-leads (type-leads names t tokens p is) (gap-leads (then-leads (value-leads v t p q has) (leads-gap (values-behind-lead row q rest more)))))

    values-behind-lead : {a : List Bool} {n : _} (row : Row_of-TypedValue n) (tokens rest : List Lexeme) → values_behind names row tokens rest → Leads a a tokens rest (behind_phrase names row)
    values-behind-lead end_of-TypedValue tokens rest same = empty-leads same
    values-behind-lead (more_of-TypedValue t v row) tokens rest (k, comma_is, (p, is, (q, has, more))) =
        then-leads (comma-leads tokens k comma_is) (then-leads (type-leads names t k p is) (gap-leads (then-leads (value-leads v t p q has) (values-behind-lead row q rest more))))

  pub typed-leads : {a : List Bool} (v : TypedValue) (tokens rest : List Lexeme) → typed names v tokens rest → Leads a a tokens rest (typed_phrase names v)
  unfolding ◌>>◌
  typed-leads v tokens rest (m, is, has) = then-leads (type-leads names v.ty tokens m is) (gap-leads (value-leads v.value v.ty m rest has))
