-- Parts of instructions are read as they are written.
use Rattle.std.proofs.Common.{◌≡◌, ℕ, ◌<◌, ◌^◌, true, false, List, [], ◌∷◌, map, Option, None, Some, codes, refl, ◌∙◌, ap}
use Rattle.ll_tokens.specs.declared.kinds.TokenKind.TheVariants.{Str, Word}
use Rattle.ll_tokens.specs.Forms.{has_form}
use Rattle.ll_tokens.specs.Tokens.{Lexeme}
use Rattle.ll_tree.specs.declared.name.Name.{Name}
use Rattle.ll_tree.specs.declared.name.NameText.{NameText}
use Rattle.ll_tree.specs.declared.op.AllocaCount.{AllocaCount}
use Rattle.ll_tree.specs.declared.op.Flag.{Flag}
use Rattle.ll_tree.specs.declared.op.Order.{Order}
use Rattle.ll_tree.specs.declared.op.PhiEntry.{PhiEntry}
use Rattle.ll_tree.specs.declared.op.SwitchCase.{SwitchCase}
use Rattle.ll_tree.specs.declared.ty.LlType.{LlType}
use Rattle.ll_tree.specs.declared.value.TypedValue.{TypedValue}
use Rattle.ll_tree.specs.declared.value.Value.{Value, Int}
use Rattle.ll_tree.specs.Names.{name_unplaced}
use Rattle.ll_tree.specs.Ops.{case_changed, count_changed, entry_changed, flag_changed}
use Rattle.ll_tree.specs.Types.{int_width}
use Rattle.ll_parser.specs.GrammarInsts.{align, alignment, count, entries, entry, flag, flag_word, order, order_word, scope, switch_case, syncscope}
use Rattle.ll_parser.specs.GrammarTypes.{ty}
use Rattle.ll_parser.specs.GrammarValues.{local, typed, value}
use Rattle.ll_parser.specs.Productions.{Production, ◌>>◌, each_behind_comma, mark, token, word}
use Rattle.ll_parser.specs.Spellings.{between_quotes}
use Rattle.ll_printed.specs.OpPhrases.{align_phrase, atomic_phrase, case_phrase, count_phrase, entry_phrase, flag_phrase, order_phrase, pair_phrase, scope_phrase, target_phrase, three_phrase, two_phrase}
use Rattle.ll_phrases.specs.Phrases.{if_some, list_phrase}
use Rattle.ll_phrases.specs.Texts.{quoted, string_phrase}
use Rattle.ll_phrases.proofs.NameTexts.{string-kind}
use Rattle.ll_phrases.proofs.NamesWritten.{local-written}
use Rattle.ll_phrases.proofs.QuotedTexts.{quotes-read}
use Rattle.ll_phrases.proofs.TypesWritten.{number-fixed, number-small, type-written}
use Rattle.ll_phrases.proofs.ValuesWritten.{bare_type, bare_typed, bare_value, integer-fixed, retyped, typed-written, value-written, width-kept}
use Rattle.ll_phrases.proofs.Written.{Fixed, Written, any-written, bare_pair, behind-again, behind-blank, behind-word, comma-then, fixed-behind-blank, fixed-both, fixed-comma, fixed-then, loose-fixed, made, made-same, mark-fixed, more, nothing-fixed, pair, solid-laid, then-fixed, word-fixed}
use Rattle.ll_printed.proofs.OpWords.{flag-kind, order-kind}

-- the place of the text's first byte
abbrev pub no_place : ℕ → ℕ
no_place byte = 0

pub alignment-fixed : (bytes : ℕ) → bytes < 2 ^ 63 → Fixed true false (alignment bytes) (align_phrase bytes)
unfolding has_form
alignment-fixed bytes lt = fixed-comma (fixed-both (word-fixed (codes "align") refl) (fixed-behind-blank (number-fixed bytes lt)) refl)

pub alignment-again : (bytes : ℕ) (tokens rest : List Lexeme) → alignment bytes tokens rest → Fixed true false (alignment bytes) (align_phrase bytes)
unfolding ◌>>◌
alignment-again bytes tokens rest (a, m, (b, w, n)) = alignment-fixed bytes (number-small bytes b rest n)

pub align-again : (bytes : Option ℕ) (tokens rest : List Lexeme) → align bytes tokens rest → Fixed true false (align bytes) (if_some align_phrase bytes)
align-again None tokens rest is = nothing-fixed
align-again (Some bytes) tokens rest is = alignment-again bytes tokens rest is

pub text-fixed : (bytes : List ℕ) → Fixed false false (token Str (λ lexeme. between_quotes lexeme.text ≡ bytes)) (string_phrase bytes)
text-fixed bytes = record {
  laid = solid-laid Str (quoted bytes) (string-kind bytes);
  reads = λ ts rs (k, at, of, same). (k, at, of, ap between_quotes same ∙ quotes-read bytes);
}

syncscope-fixed : (text : List ℕ) → Fixed true false (syncscope text) (scope_phrase text)
unfolding has_form
syncscope-fixed text =
    loose-fixed (fixed-behind-blank (fixed-both (word-fixed (codes "syncscope") refl) (fixed-both (mark-fixed 40 refl) (fixed-both (text-fixed text) (mark-fixed 41 refl) refl) refl) refl))

pub scope-fixed : (sc : Option (List ℕ)) → Fixed true false (scope sc) (if_some scope_phrase sc)
scope-fixed None = nothing-fixed
scope-fixed (Some text) = syncscope-fixed text

pub order-fixed : (o : Order) → Fixed true false (order o) (order_phrase o)
order-fixed o = fixed-behind-blank (word-fixed (order_word o) (order-kind o))

pub atomic-fixed : (sc : Option (List ℕ)) (o : Order) → Fixed true false (scope sc >> order o) (atomic_phrase sc o)
atomic-fixed sc o = fixed-both (scope-fixed sc) (order-fixed o) refl

pub flag-written : (f : Flag) → Written true false (flag_changed name_unplaced no_place) flag (flag_phrase f) f
flag-written f = behind-blank record {
  laid = solid-laid Word (flag_word f.word) (flag-kind f.word);
  reads = λ ts rs (k, at, of, same). (record { word = f.word; byte = k.byte }, refl, (k, at, of, (same, refl)));
}

module _ (names : List NameText) where
  -- the parts of instructions, as the grammar has them
  abbrev pub label : Name → Production
  label name = word (codes "label") >> local names name

  abbrev pub two : TypedValue → TypedValue → Production
  two a b = typed names a >> mark 44 >> typed names b

  abbrev pub three : TypedValue → TypedValue → TypedValue → Production
  three a b c = two a b >> mark 44 >> typed names c

  pub label-written : (name : Name) (tokens rest : List Lexeme) → label name tokens rest → Written false false name_unplaced label (target_phrase names name) name
  unfolding ◌>>◌ has_form
  label-written name tokens rest (m, w, is) = behind-word (codes "label") refl (local-written names name m rest is)

  pub two-written : (a b : TypedValue) (tokens rest : List Lexeme) → two a b tokens rest
      → Written false false (bare_pair bare_typed bare_typed) (λ (z : TypedValue × TypedValue). two z.0 z.1) (two_phrase names a b) (a, b)
  unfolding ◌>>◌
  two-written a b tokens rest (m, first, (k, comma_is, second)) = pair (typed-written names a tokens m first) (comma-then (typed-written names b k rest second)) refl

  pub three-written : (a b c : TypedValue) (tokens rest : List Lexeme) → three a b c tokens rest
      → Written false false (bare_pair (bare_pair bare_typed bare_typed) bare_typed) (λ (z : (TypedValue × TypedValue) × TypedValue). three z.0.0 z.0.1 z.1) (three_phrase names a b c) ((a, b), c)
  unfolding ◌>>◌
  three-written a b c tokens rest (m, first, (k, comma_is, second)) = pair (two-written a b tokens m first) (comma-then (typed-written names c k rest second)) refl

  -- two values of a type that is written once
  abbrev of_one_type : LlType × (Value × Value) → Production
  of_one_type z = ty names z.0 >> value names z.1.0 z.0 >> mark 44 >> value names z.1.1 z.0

  pub pair-written : (t : LlType) (left right : Value) (tokens rest : List Lexeme) → of_one_type (t, (left, right)) tokens rest
      → Written false false (bare_pair bare_type (bare_pair bare_value bare_value)) of_one_type (pair_phrase names t left right) (t, (left, right))
  unfolding ◌>>◌
  pair-written t left right tokens rest (a, is, (b, one, (c, comma_is, two))) =
      made-same (λ z. z) (λ z. z) (λ z. refl)
      (λ z same ts rs (m, u, (n, l, (k, comma_at, r))).
      let width = width-kept z.0 t (ap (λ y. y.0) same) in
      (m, u, (n, retyped names z.1.0 t z.0 m n width l, (k, comma_at, retyped names z.1.1 t z.0 k rs width r))))
      (pair (type-written names t tokens a is) (behind-blank (pair (value-written names left t a b one) (comma-then (value-written names right t c rest two)) refl)) refl)

  entry-written : (t : LlType) (e : PhiEntry) (tokens rest : List Lexeme) → entry names t e tokens rest → Written false false (entry_changed name_unplaced no_place) (entry names t) (entry_phrase names e) e
  unfolding ◌>>◌
  entry-written t e tokens rest (a, opens, (b, v, (c, comma_is, (d, block, closes)))) =
      any-written (made (λ z. record { value = z.0; block = z.1 }) (λ z. record { value = z.0; block = z.1 }) (λ z. refl) (λ z ts rs is. is)
      (fixed-then (mark-fixed 91 refl)
      (behind-blank (pair (value-written names e.value t a b v)
      (comma-then (then-fixed (local-written names e.block c d block) (fixed-behind-blank (mark-fixed 93 refl)) refl)) refl)) refl))

  pub entries-written : (t : LlType) (es : List PhiEntry) (tokens rest : List Lexeme) → entries names t es tokens rest
      → Written false false (map (entry_changed name_unplaced no_place)) (entries names t) (list_phrase (entry_phrase names) es) es
  unfolding ◌>>◌
  entries-written t [] tokens rest is = absurd is
  entries-written t (e ∷ es) tokens rest (m, first, others) =
      more e es (λ y ys ts rs has. has) (entry-written t e tokens m first) (behind-again (entry-written t) es m rest others)

  entry-retyped : (t u : LlType) (e : PhiEntry) (tokens rest : List Lexeme) → int_width t ≡ int_width u → entry names t e tokens rest → entry names u e tokens rest
  unfolding ◌>>◌
  entry-retyped t u e tokens rest width (a, opens, (b, v, more)) = (a, opens, (b, retyped names e.value t u a b width v, more))

  behind-retyped : (t u : LlType) (es : List PhiEntry) (tokens rest : List Lexeme) → int_width t ≡ int_width u → each_behind_comma (entry names t) es tokens rest → each_behind_comma (entry names u) es tokens rest
  unfolding ◌>>◌
  behind-retyped t u [] tokens rest width is = is
  behind-retyped t u (e ∷ es) tokens rest width (m, comma_is, (k, first, others)) = (m, comma_is, (k, entry-retyped t u e m k width first, behind-retyped t u es k rest width others))

  pub entries-retyped : (t u : LlType) (es : List PhiEntry) (tokens rest : List Lexeme) → int_width t ≡ int_width u → entries names t es tokens rest → entries names u es tokens rest
  unfolding ◌>>◌
  entries-retyped t u [] tokens rest width is = is
  entries-retyped t u (e ∷ es) tokens rest width (m, first, others) = (m, entry-retyped t u e tokens m width first, behind-retyped t u es m rest width others)

  pub count-written : (c : AllocaCount) (tokens rest : List Lexeme) → count names c tokens rest → Written true false (count_changed name_unplaced no_place) (count names) (count_phrase names c) c
  unfolding ◌>>◌
  count-written c tokens rest (m, comma_is, (k, t, n)) =
      made-same (λ z. record { ty = z; number = c.number }) (λ z. record { ty = z; number = c.number }) (λ z. refl)
      (λ z same ts rs (a, comma_at, (b, u, i)). (a, comma_at, (b, u, retyped names (Int c.number) c.ty z b rs (width-kept z c.ty same) i)))
      (comma-then (then-fixed (type-written names c.ty m k t) (fixed-behind-blank (integer-fixed c.ty c.number k rest n)) refl))

  pub case-written : (c : SwitchCase) (tokens rest : List Lexeme) → switch_case names c tokens rest → Written true false (case_changed name_unplaced no_place) (switch_case names) (case_phrase names c) c
  unfolding ◌>>◌
  case-written c tokens rest (m, v, (k, comma_is, target)) =
      made (λ z. record { value = z.0; target = z.1 }) (λ z. record { value = z.0; target = z.1 }) (λ z. refl) (λ z ts rs is. is)
      (behind-blank (pair (typed-written names c.value tokens m v) (comma-then (label-written c.target k rest target)) refl))
