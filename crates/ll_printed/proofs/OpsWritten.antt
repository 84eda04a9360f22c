-- Instructions are read as they are written.
use Rattle.std.proofs.Common.{◌≡◌, Bool, false, List, [], ◌∷◌, map, codes, refl, sym, ◌∙◌, ap, inl, inr}
use Rattle.ll_tokens.specs.Forms.{has_form}
use Rattle.ll_tokens.specs.Tokens.{Lexeme}
use Rattle.ll_tree.specs.declared.name.NameText.{NameText}
use Rattle.ll_tree.specs.declared.op.Op.{Op}
use Rattle.ll_tree.specs.declared.op.Op.TheVariants as op
use Rattle.ll_tree.specs.declared.ty.TypeBase.{TypeBase, Void, Int, Half, Float, Double, Named, Array', Vector', Struct', Packed'}
use Rattle.ll_tree.specs.declared.ty.LlType.{LlType}
use Rattle.ll_tree.specs.declared.value.TypedValue.{TypedValue}
use Rattle.ll_tree.specs.Names.{name_unplaced}
use Rattle.ll_tree.specs.Ops.{op_changed}
use Rattle.ll_tree.specs.Types.{base_changed}
use Rattle.ll_parser.specs.GrammarInsts.{argument, begins_with_void, binary_word, align, alignment, operation, order, predicate_word, rmw_word, scope}
use Rattle.ll_parser.specs.GrammarValues.{cast_word, if_word, only, typed}
use Rattle.ll_parser.specs.GrammarTypes.{ty}
use Rattle.ll_parser.specs.Productions.{Production, ◌>>◌, each_behind_comma, mark, word}
use Rattle.ll_printed.specs.OpPhrases.{op_phrase}
use Rattle.ll_phrases.specs.Phrases.{Phrase}
use Rattle.ll_phrases.specs.ValuePhrases.{typed_phrase}
use Rattle.ll_phrases.proofs.NamesWritten.{global-written}
use Rattle.ll_phrases.proofs.TypesWritten.{number-fixed, number-small, type-written}
use Rattle.ll_phrases.proofs.ValuesWritten.{bare_typed, cast-kind, if-word-fixed, retyped, typed-written, value-written, width-kept}
use Rattle.ll_phrases.proofs.Written.{Fixed, Written, any-written, behind-again, behind-blank, behind-word, comma-then, constant, each-again, fixed-as, fixed-behind-blank, fixed-both, fixed-comma, fixed-then, list-again, made, made-same, mark-fixed, pair, some-again, then-fixed, word-fixed}
use Rattle.ll_printed.proofs.OpParts.{align-again, alignment-again, atomic-fixed, case-written, count-written, entries-retyped, entries-written, flag-written, label-written, no_place, order-fixed, pair-written, three-written, two-written}
use Rattle.ll_printed.proofs.OpWords.{binary-kind, predicate-kind, rmw-kind}

abbrev pub bare_op : Op → Op
bare_op = op_changed name_unplaced no_place

-- two parts, then a third, as one part, then two
assoc : (a b c : Production) (tokens rest : List Lexeme) → ((a >> b) >> c) tokens rest → (a >> (b >> c)) tokens rest
unfolding ◌>>◌
assoc a b c tokens rest (m, (k, first, second), third) = (k, first, (m, second, third))

fixed-assoc : {loose closed : Bool} {p : Phrase} (a b c : Production) → Fixed loose closed ((a >> b) >> c) p → Fixed loose closed (a >> (b >> c)) p
fixed-assoc a b c fixed = fixed-as (assoc a b c) fixed

void-kept : (b : TypeBase) → begins_with_void (base_changed name_unplaced b) ≡ begins_with_void b
void-kept Void = refl
void-kept (Int bits) = refl
void-kept Half = refl
void-kept Float = refl
void-kept Double = refl
void-kept (Named name) = refl
void-kept (Array' count shape part) = refl
void-kept (Vector' lanes shape part) = refl
void-kept (Struct' shape members) = refl
void-kept (Packed' shape members) = refl

module _ (names : List NameText) where
  -- an argument, without attributes
  argument-written : (a : TypedValue) (tokens rest : List Lexeme) → argument names a tokens rest → Written false false bare_typed (argument names) (typed_phrase names a) a
  unfolding ◌>>◌
  argument-written a tokens rest (m, t, (k, attributes, v)) =
      made-same (λ z. record { ty = z.0; value = z.1 }) (λ z. record { ty = z.0; value = z.1 }) (λ z. refl)
      (λ z same ts rs (b, u, has). (b, u, (b, ([], refl), retyped names z.1 a.ty z.0 b rs (width-kept z.0 a.ty (ap (λ y. y.0) same)) has)))
      (pair (type-written names a.ty tokens m t) (behind-blank (value-written names a.value a.ty k rest v)) refl)

  returned-written : (v : TypedValue) (tokens rest : List Lexeme) → only (begins_with_void v.ty.base ≡ false) (typed names v) tokens rest
      → Written false false bare_typed (λ x. only (begins_with_void x.ty.base ≡ false) (typed names x)) (typed_phrase names v) v
  returned-written v tokens rest (no_void, is) =
      made-same (λ z. z) (λ z. z) (λ z. refl)
      (λ z same ts rs has. (sym (void-kept z.ty.base) ∙ (ap (λ y. begins_with_void y.ty.base) same ∙ (void-kept v.ty.base ∙ no_void)), has))
      (typed-written names v tokens rest is)

  -- a list that is the same as one of some indexes has some
  path-again : (inbounds : Bool) (t : LlType) (pointer : TypedValue) (x : TypedValue) (xs found : List TypedValue) → map bare_typed found ≡ map bare_typed (x ∷ xs) → (tokens rest : List Lexeme)
      → (word (codes "getelementptr") >> if_word (codes "inbounds") inbounds >> ty names t >> mark 44 >> typed names pointer >> each_behind_comma (typed names) found) tokens rest
      → operation names (op.GetElementPtr inbounds t pointer found) tokens rest
  unfolding ◌>>◌
  path-again inbounds t pointer x xs [] same tokens rest is = absurd cc
  path-again inbounds t pointer x xs (y ∷ ys) same tokens rest is = is

  pub op-written : (o : Op) (tokens rest : List Lexeme) → operation names o tokens rest → Written false false bare_op (operation names) (op_phrase names o) o
  unfolding ◌>>◌ has_form
  op-written (op.Binary kind flags t left right) tokens rest (a, w, (b, fs, both)) =
      made (λ z. op.Binary kind z.0 z.1.0 z.1.1.0 z.1.1.1) (λ z. op.Binary kind z.0 z.1.0 z.1.1.0 z.1.1.1) (λ z. refl) (λ z ts rs is. is)
      (fixed-then (word-fixed (binary_word kind) (binary-kind kind))
      (pair (each-again (λ f ts rs is. flag-written f) flags a b fs) (behind-blank (pair-written names t left right b rest both)) refl) refl)
  op-written (op.Compare p t left right) tokens rest (a, w, (b, pred, both)) =
      made (λ z. op.Compare p z.0 z.1.0 z.1.1) (λ z. op.Compare p z.0 z.1.0 z.1.1) (λ z. refl) (λ z ts rs is. is)
      (behind-word (codes "icmp") refl (behind-word (predicate_word p) (predicate-kind p) (pair-written names t left right b rest both)))
  op-written (op.Select condition accepted rejected) tokens rest (a, w, is) =
      made (λ z. op.Select z.0.0 z.0.1 z.1) (λ z. op.Select z.0.0 z.0.1 z.1) (λ z. refl) (λ z ts rs d. d)
      (behind-word (codes "select") refl (three-written names condition accepted rejected a rest is))
  op-written (op.Cast kind operand to) tokens rest (a, w, (b, v, (c, word_to, t))) =
      made (λ z. op.Cast kind z.0 z.1) (λ z. op.Cast kind z.0 z.1) (λ z. refl) (λ z ts rs is. is)
      (behind-word (cast_word kind) (cast-kind kind) (pair (typed-written names operand a b v) (behind-blank (behind-word (codes "to") refl (type-written names to c rest t))) refl))
  op-written (op.Phi t es) tokens rest (a, w, (b, is, all)) =
      made-same (λ z. op.Phi z.0 z.1) (λ z. op.Phi z.0 z.1) (λ z. refl)
      (λ z same ts rs (m, phi, (k, u, has)). (m, phi, (k, u, entries-retyped names t z.0 z.1 k rs (width-kept z.0 t (ap (λ y. y.0) same)) has)))
      (behind-word (codes "phi") refl (pair (type-written names t a b is) (behind-blank (entries-written names t es b rest all)) refl))
  op-written (op.Alloca t c bytes) tokens rest (a, w, (b, is, (d, counted, aligned))) =
      made (λ z. op.Alloca z.0 z.1 bytes) (λ z. op.Alloca z.0 z.1 bytes) (λ z. refl) (λ z ts rs h. h)
      (behind-word (codes "alloca") refl (pair (type-written names t a b is) (then-fixed (some-again (count-written names) c b d counted) (align-again bytes d rest aligned) refl) refl))
  op-written (op.Load volatile t pointer bytes) tokens rest (a, w, (b, v, (c, is, (d, comma_is, (e, from, aligned))))) =
      made (λ z. op.Load volatile z.0 z.1 bytes) (λ z. op.Load volatile z.0 z.1 bytes) (λ z. refl) (λ z ts rs h. h)
      (fixed-then (word-fixed (codes "load") refl) (fixed-then (if-word-fixed (codes "volatile") volatile refl)
      (behind-blank (pair (type-written names t b c is) (comma-then (then-fixed (typed-written names pointer d e from) (align-again bytes e rest aligned) refl)) refl)) refl) refl)
  op-written (op.Store volatile stored pointer bytes) tokens rest (a, w, (b, v, (c, both, aligned))) =
      made (λ z. op.Store volatile z.0 z.1 bytes) (λ z. op.Store volatile z.0 z.1 bytes) (λ z. refl) (λ z ts rs h. h)
      (fixed-then (word-fixed (codes "store") refl) (fixed-then (if-word-fixed (codes "volatile") volatile refl)
      (behind-blank (then-fixed (two-written names stored pointer b c both) (align-again bytes c rest aligned) refl)) refl) refl)
  op-written (op.AtomicLoad t pointer sc o bytes) tokens rest (a, w, (b, at, (c, is, (d, comma_is, (e, from, (f, scoped, (g, ordered, aligned))))))) =
      made (λ z. op.AtomicLoad z.0 z.1 sc o bytes) (λ z. op.AtomicLoad z.0 z.1 sc o bytes) (λ z. refl) (λ z ts rs h. h)
      (behind-word (codes "load") refl (behind-word (codes "atomic") refl
      (pair (type-written names t b c is) (comma-then (then-fixed (typed-written names pointer d e from) (fixed-assoc (scope sc) (order o) (alignment bytes) (fixed-both (atomic-fixed sc o) (alignment-again bytes g rest aligned) refl)) refl)) refl)))
  op-written (op.AtomicStore stored pointer sc o bytes) tokens rest (a, w, (b, at, (c, both, (f, scoped, (g, ordered, aligned))))) =
      made (λ z. op.AtomicStore z.0 z.1 sc o bytes) (λ z. op.AtomicStore z.0 z.1 sc o bytes) (λ z. refl) (λ z ts rs h. h)
      (behind-word (codes "store") refl (behind-word (codes "atomic") refl
      (then-fixed (two-written names stored pointer b c both) (fixed-assoc (scope sc) (order o) (alignment bytes) (fixed-both (atomic-fixed sc o) (alignment-again bytes g rest aligned) refl)) refl)))
  op-written (op.CompareExchange pointer comparator new sc equal unequal bytes) tokens rest (a, w, (b, all, (c, scoped, (d, first, (e, second, aligned))))) =
      made (λ z. op.CompareExchange z.0.0 z.0.1 z.1 sc equal unequal bytes) (λ z. op.CompareExchange z.0.0 z.0.1 z.1 sc equal unequal bytes) (λ z. refl) (λ z ts rs h. h)
      (behind-word (codes "cmpxchg") refl
      (then-fixed (three-written names pointer comparator new a b all)
      (fixed-assoc (scope sc) (order equal) (order unequal >> align bytes) (fixed-both (atomic-fixed sc equal) (fixed-both (order-fixed unequal) (align-again bytes e rest aligned) refl) refl)) refl))
  op-written (op.AtomicRmw kind pointer operand sc o bytes) tokens rest (a, w, (b, k, (c, both, (d, scoped, (e, ordered, aligned))))) =
      made (λ z. op.AtomicRmw kind z.0 z.1 sc o bytes) (λ z. op.AtomicRmw kind z.0 z.1 sc o bytes) (λ z. refl) (λ z ts rs h. h)
      (behind-word (codes "atomicrmw") refl (behind-word (rmw_word kind) (rmw-kind kind)
      (then-fixed (two-written names pointer operand b c both) (fixed-assoc (scope sc) (order o) (align bytes) (fixed-both (atomic-fixed sc o) (align-again bytes e rest aligned) refl)) refl)))
  op-written (op.Fence sc o) tokens rest is = constant _ _ (op.Fence sc o) (fixed-both (word-fixed (codes "fence") refl) (atomic-fixed sc o) refl)
  op-written (op.GetElementPtr inbounds t pointer []) tokens rest (a, w, (b, i, (c, steps, (d, comma_is, (e, from, none))))) = absurd none
  op-written (op.GetElementPtr inbounds t pointer (x ∷ xs)) tokens rest (a, w, (b, i, (c, steps, (d, comma_is, (e, from, all))))) =
      made-same (λ z. op.GetElementPtr inbounds z.0 z.1.0 z.1.1) (λ z. op.GetElementPtr inbounds z.0 z.1.0 z.1.1) (λ z. refl)
      (λ z same ts rs h. path-again inbounds z.0 z.1.0 x xs z.1.1 (ap (λ y. y.1.1) same) ts rs h)
      (fixed-then (word-fixed (codes "getelementptr") refl) (fixed-then (if-word-fixed (codes "inbounds") inbounds refl)
      (behind-blank (pair (type-written names t b c steps) (comma-then (pair (typed-written names pointer d e from) (behind-again (typed-written names) (x ∷ xs) e rest all) refl)) refl)) refl) refl)
  op-written (op.ExtractElement vector index) tokens rest (a, w, is) =
      made (λ z. op.ExtractElement z.0 z.1) (λ z. op.ExtractElement z.0 z.1) (λ z. refl) (λ z ts rs h. h) (behind-word (codes "extractelement") refl (two-written names vector index a rest is))
  op-written (op.InsertElement vector element index) tokens rest (a, w, is) =
      made (λ z. op.InsertElement z.0.0 z.0.1 z.1) (λ z. op.InsertElement z.0.0 z.0.1 z.1) (λ z. refl) (λ z ts rs h. h)
      (behind-word (codes "insertelement") refl (three-written names vector element index a rest is))
  op-written (op.ShuffleVector left right mask) tokens rest (a, w, is) =
      made (λ z. op.ShuffleVector z.0.0 z.0.1 z.1) (λ z. op.ShuffleVector z.0.0 z.0.1 z.1) (λ z. refl) (λ z ts rs h. h)
      (behind-word (codes "shufflevector") refl (three-written names left right mask a rest is))
  op-written (op.ExtractValue aggregate index) tokens rest (a, w, (b, v, (c, comma_is, n))) =
      made (λ z. op.ExtractValue z index) (λ z. op.ExtractValue z index) (λ z. refl) (λ z ts rs h. h)
      (behind-word (codes "extractvalue") refl (then-fixed (typed-written names aggregate a b v) (fixed-comma (number-fixed index (number-small index c rest n))) refl))
  op-written (op.Call t callee arguments) tokens rest (a, tail, (b, w, (c, conv, (d, attributes, (e, is, (f, name, (g, opens, (h, all, (i, closes, behind))))))))) =
      made (λ z. op.Call z.0 z.1.0 z.1.1) (λ z. op.Call z.0 z.1.0 z.1.1) (λ z. refl)
      (λ z ts rs (m, call, (n, spir, (p, u, (q, called, (r, bracket, (s, given, end)))))). (ts, inr refl, (m, call, (n, inl (inr spir), (n, ([], refl), (p, u, (q, called, (r, bracket, (s, given, (rs, end, ([], refl)))))))))))
      (any-written (behind-word (codes "call") refl (behind-word (codes "spir_func") refl
      (pair (type-written names t d e is) (behind-blank (pair (global-written names callee e f name)
      (fixed-then (mark-fixed 40 refl) (then-fixed (list-again argument-written arguments g h all) (mark-fixed 41 refl) refl) refl) refl)) refl))))
  op-written op.ReturnVoid tokens rest is = constant _ _ op.ReturnVoid (fixed-both (word-fixed (codes "ret") refl) (fixed-behind-blank (word-fixed (codes "void") refl)) refl)
  op-written (op.Return given) tokens rest (a, w, is) =
      made (λ z. op.Return z) (λ z. op.Return z) (λ z. refl) (λ z ts rs h. h) (behind-word (codes "ret") refl (returned-written given a rest is))
  op-written (op.Jump target) tokens rest (a, w, is) =
      made (λ z. op.Jump z) (λ z. op.Jump z) (λ z. refl) (λ z ts rs h. h) (behind-word (codes "br") refl (label-written names target a rest is))
  op-written (op.Branch condition accepted rejected) tokens rest (a, w, (b, v, (c, comma_is, (d, one, (e, comma_at, two))))) =
      made (λ z. op.Branch z.0 z.1.0 z.1.1) (λ z. op.Branch z.0 z.1.0 z.1.1) (λ z. refl) (λ z ts rs h. h)
      (behind-word (codes "br") refl (pair (typed-written names condition a b v) (comma-then (pair (label-written names accepted c d one) (comma-then (label-written names rejected e rest two)) refl)) refl))
  op-written (op.Switch selector default cases) tokens rest (a, w, (b, v, (c, comma_is, (d, one, (e, opens, (f, all, closes)))))) =
      made (λ z. op.Switch z.0 z.1.0 z.1.1) (λ z. op.Switch z.0 z.1.0 z.1.1) (λ z. refl) (λ z ts rs h. h)
      (any-written (behind-word (codes "switch") refl (pair (typed-written names selector a b v)
      (comma-then (pair (label-written names default c d one)
      (behind-blank (fixed-then (mark-fixed 91 refl) (then-fixed (each-again (case-written names) cases e f all) (fixed-behind-blank (mark-fixed 93 refl)) refl) refl)) refl)) refl)))
  op-written op.Unreachable tokens rest is = constant _ _ op.Unreachable (word-fixed (codes "unreachable") refl)
