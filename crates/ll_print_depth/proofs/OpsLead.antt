-- The walk over brackets goes through instructions.
use Rattle.std.proofs.Common.{◌≡◌, ℕ, Bool, true, false, List, [], ◌∷◌, ◌++◌, codes, Option, None, Some, refl, inl, inr, subst}
use Rattle.std.specs.Prelude.{bytes_eq}
use Rattle.kern_lanes.specs.declared.binary.BinOp.{BinOp}
use Rattle.kern_lanes.specs.declared.binary.BinOp.TheVariants as bin
use Rattle.kern_lanes.specs.declared.comparison.Pred.{Pred}
use Rattle.kern_lanes.specs.declared.comparison.Pred.TheVariants as pred
use Rattle.kern_lanes.specs.declared.atomic.RmwOp.{RmwOp}
use Rattle.kern_lanes.specs.declared.atomic.RmwOp.TheVariants as rmw
use Rattle.ll_tokens.specs.declared.kinds.TokenKind.TheVariants.{Str, Word}
use Rattle.ll_tokens.specs.Tokens.{Lexeme}
use Rattle.ll_tree.specs.declared.name.Name.{Name}
use Rattle.ll_tree.specs.declared.name.NameText.{NameText}
use Rattle.ll_tree.specs.declared.op.AllocaCount.{AllocaCount}
use Rattle.ll_tree.specs.declared.op.Flag.{Flag}
use Rattle.ll_tree.specs.declared.op.FlagWord.{FlagWord}
use Rattle.ll_tree.specs.declared.op.FlagWord.TheVariants.{Nuw, Nsw, Exact}
use Rattle.ll_tree.specs.declared.op.Op.{Op}
use Rattle.ll_tree.specs.declared.op.Op.TheVariants as op
use Rattle.ll_tree.specs.declared.op.Order.{Order}
use Rattle.ll_tree.specs.declared.op.Order.TheVariants.{Monotonic, Acquire, Release, AcqRel, SeqCst}
use Rattle.ll_tree.specs.declared.op.PhiEntry.{PhiEntry}
use Rattle.ll_tree.specs.declared.op.SwitchCase.{SwitchCase}
use Rattle.ll_tree.specs.declared.ty.LlType.{LlType}
use Rattle.ll_tree.specs.declared.value.TypedValue.{TypedValue}
use Rattle.ll_tree.specs.declared.value.Value.{Value}
use Rattle.ll_parser.specs.GrammarInsts.{align, alignment, argument, binary_word, count, entries, entry, flag, flag_word, operation, order, order_word, predicate_word, rmw_word, scope, switch_case}
use Rattle.ll_parser.specs.GrammarTypes.{ty}
use Rattle.ll_parser.specs.GrammarValues.{cast_word, local, typed, value}
use Rattle.ll_parser.specs.Productions.{Production, ◌>>◌, ◌or◌, maybe, each_behind_comma, listed, mark, word}
use Rattle.ll_printed.specs.OpPhrases.{align_phrase, case_phrase, count_phrase, entry_phrase, flag_phrase, op_phrase, order_phrase, pair_phrase, scope_phrase, target_phrase, three_phrase, two_phrase}
use Rattle.ll_phrases.specs.Phrases.{Phrase, ◌&◌, a_word, blank, each_behind, if_some, list_phrase}
use Rattle.ll_phrases.specs.ValuePhrases.{typed_phrase}
use Rattle.ll_print_depth.proofs.AttributesLead.{attributes-left-out, each-leads, function-attributes-left-out, some-leads}
use Rattle.ll_print_depth.proofs.Passing.{IsShallow, Leads, closing-leads, counted-leads, empty-leads, gap-leads, plain-of, plain-passes, skipped, skipped-behind, then-leads, token-leads, word-added, word-leads, word-left-out, word-plain}
use Rattle.ll_print_depth.proofs.TypesLead.{number-leads, quiet-string, type-leads}
use Rattle.ll_print_depth.proofs.ValuesLead.{cast-no-group, comma-leads, global-leads, if-word-leads, integer-leads, local-leads, typed-leads, value-leads}

binary-no-group : (kind : BinOp) → bytes_eq (binary_word kind) (codes "attributes") ≡ false
binary-no-group bin.Add = refl
binary-no-group bin.Sub = refl
binary-no-group bin.Mul = refl
binary-no-group bin.UDiv = refl
binary-no-group bin.SDiv = refl
binary-no-group bin.URem = refl
binary-no-group bin.SRem = refl
binary-no-group bin.Shl = refl
binary-no-group bin.LShr = refl
binary-no-group bin.AShr = refl
binary-no-group bin.And = refl
binary-no-group bin.Or = refl
binary-no-group bin.Xor = refl

predicate-no-group : (p : Pred) → bytes_eq (predicate_word p) (codes "attributes") ≡ false
predicate-no-group pred.Eq = refl
predicate-no-group pred.Ne = refl
predicate-no-group pred.Ugt = refl
predicate-no-group pred.Uge = refl
predicate-no-group pred.Ult = refl
predicate-no-group pred.Ule = refl
predicate-no-group pred.Sgt = refl
predicate-no-group pred.Sge = refl
predicate-no-group pred.Slt = refl
predicate-no-group pred.Sle = refl

rmw-no-group : (kind : RmwOp) → bytes_eq (rmw_word kind) (codes "attributes") ≡ false
rmw-no-group rmw.Xchg = refl
rmw-no-group rmw.Add = refl
rmw-no-group rmw.Sub = refl
rmw-no-group rmw.And = refl
rmw-no-group rmw.Or = refl
rmw-no-group rmw.Xor = refl
rmw-no-group rmw.Max = refl
rmw-no-group rmw.Min = refl
rmw-no-group rmw.UMax = refl
rmw-no-group rmw.UMin = refl

order-no-group : (o : Order) → bytes_eq (order_word o) (codes "attributes") ≡ false
order-no-group Monotonic = refl
order-no-group Acquire = refl
order-no-group Release = refl
order-no-group AcqRel = refl
order-no-group SeqCst = refl

flag-no-group : (f : FlagWord) → bytes_eq (flag_word f) (codes "attributes") ≡ false
flag-no-group Nuw = refl
flag-no-group Nsw = refl
flag-no-group Exact = refl

alignment-leads : {a : List Bool} (bytes : ℕ) (tokens rest : List Lexeme) → alignment bytes tokens rest → Leads a a tokens rest (align_phrase bytes)
unfolding ◌>>◌
alignment-leads bytes tokens rest (p, comma_is, (q, w, n)) = then-leads (comma-leads tokens p comma_is) (then-leads (word-leads (codes "align") p q refl w) (gap-leads (number-leads bytes q rest n)))

pub align-leads : {a : List Bool} (bytes : Option ℕ) (tokens rest : List Lexeme) → align bytes tokens rest → Leads a a tokens rest (if_some align_phrase bytes)
align-leads None tokens rest same = empty-leads same
align-leads (Some bytes) tokens rest d = alignment-leads bytes tokens rest d

scope-leads : {a : List Bool} (sc : Option (List ℕ)) (tokens rest : List Lexeme) → scope sc tokens rest → Leads a a tokens rest (if_some scope_phrase sc)
unfolding ◌>>◌
scope-leads None tokens rest same = empty-leads same
scope-leads (Some text) tokens rest (p, w, (q, opens, (r, s, closes))) =
    gap-leads (then-leads (word-leads (codes "syncscope") tokens p refl w) (counted-leads 40 p q rest (λ next. refl) opens (then-leads (token-leads Str _ _ q r quiet-string s) (closing-leads true 41 r rest (λ next. refl) closes))))

order-leads : {a : List Bool} (o : Order) (tokens rest : List Lexeme) → order o tokens rest → Leads a a tokens rest (order_phrase o)
order-leads o tokens rest d = gap-leads (word-leads (order_word o) tokens rest (order-no-group o) d)

flag-leads : {a : List Bool} (f : Flag) (tokens rest : List Lexeme) → flag f tokens rest → Leads a a tokens rest (flag_phrase f)
flag-leads f tokens rest (l, is, of, (same, place)) =
    gap-leads (plain-passes Word (flag_word f.word) l tokens rest is (plain-of Word (flag_word f.word) l of same (word-plain (flag_word f.word) (flag-no-group f.word))) (word-plain (flag_word f.word) (flag-no-group f.word)))

-- behind a word and a blank
behind-word : {a b : List Bool} {tokens m rest : List Lexeme} {q : Phrase} (text : List ℕ) → bytes_eq text (codes "attributes") ≡ false → word text tokens m → Leads a b m rest q → Leads a b tokens rest (a_word text & blank & q)
behind-word {a} {b} {tokens} {m} text isnt w passing = then-leads (word-leads text tokens m isnt w) (gap-leads passing)

behind-comma : {A : Type 0} (item : A → Production) (phrase : A → Phrase) (a : List Bool) → ((x : A) (tokens rest : List Lexeme) → item x tokens rest → Leads a a tokens rest (phrase x)) → (xs : List A) (tokens rest : List Lexeme) → each_behind_comma item xs tokens rest
    → Leads a a tokens rest (each_behind phrase xs)
unfolding ◌>>◌
behind-comma item phrase a one [] tokens rest same = empty-leads same
behind-comma item phrase a one (x ∷ xs) tokens rest (k, comma_is, (m, first, others)) = then-leads (comma-leads tokens k comma_is) (then-leads (one x k m first) (behind-comma item phrase a one xs m rest others))

pub listed-leads : {A : Type 0} (item : A → Production) (phrase : A → Phrase) (a : List Bool) → ((x : A) (tokens rest : List Lexeme) → item x tokens rest → Leads a a tokens rest (phrase x)) → (xs : List A) (tokens rest : List Lexeme) → listed item xs tokens rest
    → Leads a a tokens rest (list_phrase phrase xs)
unfolding ◌>>◌
listed-leads item phrase a one [] tokens rest same = empty-leads same
listed-leads item phrase a one (x ∷ xs) tokens rest (m, first, others) = then-leads (one x tokens m first) (behind-comma item phrase a one xs m rest others)

module _ (names : List NameText) where
  label-leads : {a : List Bool} (name : Name) (tokens rest : List Lexeme) → (word (codes "label") >> local names name) tokens rest → Leads a a tokens rest (target_phrase names name)
  unfolding ◌>>◌
  label-leads name tokens rest (m, w, is) = behind-word (codes "label") refl w (local-leads names name m rest is)

  two-lead : {a : List Bool} (x y : TypedValue) (tokens rest : List Lexeme) → (typed names x >> mark 44 >> typed names y) tokens rest → Leads a a tokens rest (two_phrase names x y)
  unfolding ◌>>◌
  two-lead x y tokens rest (m, first, (k, comma_is, second)) = then-leads (typed-leads names x tokens m first) (then-leads (comma-leads m k comma_is) (typed-leads names y k rest second))

  three-lead : {a : List Bool} (x y z : TypedValue) (tokens rest : List Lexeme) → ((typed names x >> mark 44 >> typed names y) >> mark 44 >> typed names z) tokens rest → Leads a a tokens rest (three_phrase names x y z)
  unfolding ◌>>◌
  three-lead x y z tokens rest (m, first, (k, comma_is, second)) = then-leads (two-lead x y tokens m first) (then-leads (comma-leads m k comma_is) (typed-leads names z k rest second))

  pair-leads : {a : List Bool} (t : LlType) (left right : Value) (tokens rest : List Lexeme) → (ty names t >> value names left t >> mark 44 >> value names right t) tokens rest → Leads a a tokens rest (pair_phrase names t left right)
  unfolding ◌>>◌
  pair-leads t left right tokens rest (p, is, (q, one, (r, comma_is, two))) =
      then-leads (type-leads names t tokens p is) (gap-leads (then-leads (value-leads names left t p q one) (then-leads (comma-leads q r comma_is) (value-leads names right t r rest two))))

  entry-leads : {a : List Bool} (t : LlType) (e : PhiEntry) (tokens rest : List Lexeme) → entry names t e tokens rest → Leads a a tokens rest (entry_phrase names e)
  unfolding ◌>>◌
  entry-leads t e tokens rest (p, opens, (q, v, (r, comma_is, (s, block, closes)))) =
      counted-leads 91 tokens p rest (λ next. refl) opens (gap-leads (then-leads (value-leads names e.value t p q v) (then-leads (comma-leads q r comma_is) (then-leads (local-leads names e.block r s block) (gap-leads (closing-leads true 93 s rest (λ next. refl) closes))))))

  entries-lead : (a : List Bool) (t : LlType) (es : List PhiEntry) (tokens rest : List Lexeme) → entries names t es tokens rest → Leads a a tokens rest (list_phrase (entry_phrase names) es)
  unfolding ◌>>◌
  entries-lead a t [] tokens rest none = absurd none
  entries-lead a t (e ∷ es) tokens rest (m, first, others) = then-leads (entry-leads t e tokens m first) (behind-comma (entry names t) (entry_phrase names) a (entry-leads t) es m rest others)

  count-leads : {a : List Bool} (c : AllocaCount) (tokens rest : List Lexeme) → count names c tokens rest → Leads a a tokens rest (count_phrase names c)
  unfolding ◌>>◌
  count-leads c tokens rest (m, comma_is, (k, t, n)) = then-leads (comma-leads tokens m comma_is) (then-leads (type-leads names c.ty m k t) (gap-leads (integer-leads c.ty c.number k rest n)))

  case-leads : {a : List Bool} (c : SwitchCase) (tokens rest : List Lexeme) → switch_case names c tokens rest → Leads a a tokens rest (case_phrase names c)
  unfolding ◌>>◌
  case-leads c tokens rest (m, v, (k, comma_is, target)) = gap-leads (then-leads (typed-leads names c.value tokens m v) (then-leads (comma-leads m k comma_is) (label-leads c.target k rest target)))

  argument-leads : {a : List Bool} (x : TypedValue) (tokens rest : List Lexeme) → argument names x tokens rest → Leads a a tokens rest (typed_phrase names x)
  unfolding ◌>>◌
  argument-leads {a} x tokens rest (m, t, (k, attributes, v)) = then-leads (type-leads names x.ty tokens m t) (gap-leads (skipped (attributes-left-out names a m k attributes) (value-leads names x.value x.ty k rest v)))

  pub op-leads : (a : List Bool) (o : Op) (tokens rest : List Lexeme) → operation names o tokens rest → Leads a a tokens rest (op_phrase names o)
  unfolding ◌>>◌
  op-leads a (op.Binary kind flags t left right) tokens rest (p, w, (q, fs, both)) =
      then-leads (word-leads (binary_word kind) tokens p (binary-no-group kind) w) (then-leads (each-leads flag flag_phrase a flag-leads flags p q fs) (gap-leads (pair-leads t left right q rest both)))
  op-leads a (op.Compare p t left right) tokens rest (q, w, (r, pw, both)) = behind-word (codes "icmp") refl w (behind-word (predicate_word p) (predicate-no-group p) pw (pair-leads t left right r rest both))
  op-leads a (op.Select condition accepted rejected) tokens rest (p, w, is) = behind-word (codes "select") refl w (three-lead condition accepted rejected p rest is)
  op-leads a (op.Cast kind operand to) tokens rest (p, w, (q, v, (r, word_to, t))) =
      behind-word (cast_word kind) (cast-no-group kind) w (then-leads (typed-leads names operand p q v) (gap-leads (behind-word (codes "to") refl word_to (type-leads names to r rest t))))
  op-leads a (op.Phi t es) tokens rest (p, w, (q, is, all)) = behind-word (codes "phi") refl w (then-leads (type-leads names t p q is) (gap-leads (entries-lead a t es q rest all)))
  op-leads a (op.Alloca t c bytes) tokens rest (p, w, (q, is, (r, counted, aligned))) =
      behind-word (codes "alloca") refl w (then-leads (type-leads names t p q is) (then-leads (some-leads (count names) (count_phrase names) a count-leads c q r counted) (align-leads bytes r rest aligned)))
  op-leads a (op.Load volatile t pointer bytes) tokens rest (p, w, (q, v, (r, is, (s, comma_is, (u, from, aligned))))) =
      then-leads (word-leads (codes "load") tokens p refl w) (then-leads (if-word-leads (codes "volatile") volatile p q refl v)
      (gap-leads (then-leads (type-leads names t q r is) (then-leads (comma-leads r s comma_is) (then-leads (typed-leads names pointer s u from) (align-leads bytes u rest aligned))))))
  op-leads a (op.Store volatile stored pointer bytes) tokens rest (p, w, (q, v, (r, both, aligned))) =
      then-leads (word-leads (codes "store") tokens p refl w) (then-leads (if-word-leads (codes "volatile") volatile p q refl v) (gap-leads (then-leads (two-lead stored pointer q r both) (align-leads bytes r rest aligned))))
  op-leads a (op.AtomicLoad t pointer sc o bytes) tokens rest (p, w, (q, at, (r, is, (s, comma_is, (u, from, (f, scoped, (g, ordered, aligned))))))) =
      behind-word (codes "load") refl w (behind-word (codes "atomic") refl at (then-leads (type-leads names t q r is) (then-leads (comma-leads r s comma_is)
      (then-leads (typed-leads names pointer s u from) (then-leads (then-leads (scope-leads sc u f scoped) (order-leads o f g ordered)) (alignment-leads bytes g rest aligned))))))
  op-leads a (op.AtomicStore stored pointer sc o bytes) tokens rest (p, w, (q, at, (r, both, (f, scoped, (g, ordered, aligned))))) =
      behind-word (codes "store") refl w (behind-word (codes "atomic") refl at (then-leads (two-lead stored pointer q r both) (then-leads (then-leads (scope-leads sc r f scoped) (order-leads o f g ordered)) (alignment-leads bytes g rest aligned))))
  op-leads a (op.CompareExchange pointer comparator new sc equal unequal bytes) tokens rest (p, w, (q, all, (r, scoped, (s, first, (u, second, aligned))))) =
      behind-word (codes "cmpxchg") refl w (then-leads (three-lead pointer comparator new p q all)
      (then-leads (then-leads (scope-leads sc q r scoped) (order-leads equal r s first)) (then-leads (order-leads unequal s u second) (align-leads bytes u rest aligned))))
  op-leads a (op.AtomicRmw kind pointer operand sc o bytes) tokens rest (p, w, (q, k, (r, both, (s, scoped, (u, ordered, aligned))))) =
      behind-word (codes "atomicrmw") refl w (behind-word (rmw_word kind) (rmw-no-group kind) k (then-leads (two-lead pointer operand q r both)
      (then-leads (then-leads (scope-leads sc r s scoped) (order-leads o s u ordered)) (align-leads bytes u rest aligned))))
  op-leads a (op.Fence sc o) tokens rest (p, w, (q, scoped, ordered)) = then-leads (word-leads (codes "fence") tokens p refl w) (then-leads (scope-leads sc p q scoped) (order-leads o q rest ordered))
  op-leads a (op.GetElementPtr inbounds t pointer []) tokens rest (p, w, (q, i, (r, steps, (s, comma_is, (u, from, none))))) = absurd none
  op-leads a (op.GetElementPtr inbounds t pointer (x ∷ xs)) tokens rest (p, w, (q, i, (r, steps, (s, comma_is, (u, from, all))))) =
      then-leads (word-leads (codes "getelementptr") tokens p refl w) (then-leads (if-word-leads (codes "inbounds") inbounds p q refl i)
      (gap-leads (then-leads (type-leads names t q r steps) (then-leads (comma-leads r s comma_is) (then-leads (typed-leads names pointer s u from) (behind-comma (typed names) (typed_phrase names) a (typed-leads names) (x ∷ xs) u rest all))))))
  op-leads a (op.ExtractElement vector index) tokens rest (p, w, is) = behind-word (codes "extractelement") refl w (two-lead vector index p rest is)
  op-leads a (op.InsertElement vector element index) tokens rest (p, w, is) = behind-word (codes "insertelement") refl w (three-lead vector element index p rest is)
  op-leads a (op.ShuffleVector left right mask) tokens rest (p, w, is) = behind-word (codes "shufflevector") refl w (three-lead left right mask p rest is)
  op-leads a (op.ExtractValue aggregate index) tokens rest (p, w, (q, v, (r, comma_is, n))) =
      behind-word (codes "extractvalue") refl w (then-leads (typed-leads names aggregate p q v) (then-leads (comma-leads q r comma_is) (number-leads index r rest n)))
  op-leads a (op.Call t callee arguments) tokens rest (p, tail, (q, w, (r, conv, (s, attributes, (u, is, (f, name, (g, opens, (h, all, (i, closes, behind))))))))) =
      skipped (tail-left-out p tail) (behind-word (codes "call") refl w (word-added (codes "spir_func") refl (gap-leads (skipped (convention-left-out q r conv) (skipped (attributes-left-out names a r s attributes)
      (then-leads (type-leads names t s u is) (gap-leads (then-leads (global-leads names callee u f name)
      (counted-leads 40 f g rest (λ next. refl) opens (then-leads (listed-leads (argument names) (typed_phrase names) (a ++ true ∷ []) argument-leads arguments g h all)
      (skipped-behind (closing-leads true 41 h i (λ next. refl) closes) (function-attributes-left-out a i rest behind))))))))))))
    where
      tail-left-out : (m : List Lexeme) → maybe (word (codes "tail") or word (codes "notail")) tokens m → IsShallow a tokens → IsShallow a m
      tail-left-out m (inl (inl is)) shallow = word-left-out a (codes "tail") tokens m refl is shallow
      tail-left-out m (inl (inr is)) shallow = word-left-out a (codes "notail") tokens m refl is shallow
      tail-left-out m (inr same) shallow = subst (λ (ts : List Lexeme). IsShallow a ts) same shallow

      convention-left-out : (m n : List Lexeme) → maybe (word (codes "spir_kernel") or word (codes "spir_func")) m n → IsShallow a m → IsShallow a n
      convention-left-out m n (inl (inl is)) shallow = word-left-out a (codes "spir_kernel") m n refl is shallow
      convention-left-out m n (inl (inr is)) shallow = word-left-out a (codes "spir_func") m n refl is shallow
      convention-left-out m n (inr same) shallow = subst (λ (ts : List Lexeme). IsShallow a ts) same shallow
  op-leads a op.ReturnVoid tokens rest (p, w, v) = behind-word (codes "ret") refl w (word-leads (codes "void") p rest refl v)
  op-leads a (op.Return given) tokens rest (p, w, (no_void, is)) = behind-word (codes "ret") refl w (typed-leads names given p rest is)
  op-leads a (op.Jump target) tokens rest (p, w, is) = behind-word (codes "br") refl w (label-leads target p rest is)
  op-leads a (op.Branch condition accepted rejected) tokens rest (p, w, (q, v, (r, comma_is, (s, one, (u, comma_at, two))))) =
      behind-word (codes "br") refl w (then-leads (typed-leads names condition p q v) (then-leads (comma-leads q r comma_is) (then-leads (label-leads accepted r s one) (then-leads (comma-leads s u comma_at) (label-leads rejected u rest two)))))
  op-leads a (op.Switch selector default cases) tokens rest (p, w, (q, v, (r, comma_is, (s, one, (u, opens, (f, all, closes)))))) =
      behind-word (codes "switch") refl w (then-leads (typed-leads names selector p q v) (then-leads (comma-leads q r comma_is) (then-leads (label-leads default r s one)
      (gap-leads (counted-leads 91 s u rest (λ next. refl) opens (then-leads (each-leads (switch_case names) (case_phrase names) (a ++ true ∷ []) case-leads cases u f all) (gap-leads (closing-leads true 93 f rest (λ next. refl) closes))))))))
  op-leads a op.Unreachable tokens rest d = word-leads (codes "unreachable") tokens rest refl d
