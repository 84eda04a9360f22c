-- Instructions as readers find them.
use Rattle.std.proofs.Common.{◌≡◌, ℕ, Bool, true, false, ◌⊎◌, List, [], ◌∷◌, map, codes, true≢false, refl, sym, ap, ◌∙◌, inl, inr}
use Rattle.kern_lanes.specs.declared.comparison.Pred.TheVariants as pred
use Rattle.kern_lanes.specs.declared.atomic.RmwOp.TheVariants as rmw
use Rattle.ll_tokens.specs.declared.kinds.TokenKind.{TokenKind}
use Rattle.ll_tokens.specs.declared.kinds.TokenKind.TheVariants.{Word, Local as LocalToken, Global as GlobalToken, Int as IntToken, MdName}
use Rattle.ll_tokens.specs.Tokens.{Lexeme}
use Rattle.ll_tree.specs.declared.name.Name.{Name}
use Rattle.ll_tree.specs.declared.name.NameKind.TheVariants.{Local as LocalName, Global as GlobalName}
use Rattle.ll_tree.specs.declared.name.NameText.{NameText}
use Rattle.ll_tree.specs.declared.op.AllocaCount.{AllocaCount}
use Rattle.ll_tree.specs.declared.op.Flag.{Flag}
use Rattle.ll_tree.specs.declared.op.Op.{Op}
use Rattle.ll_tree.specs.declared.op.Op.TheVariants as op
use Rattle.ll_tree.specs.declared.op.Order.{Order}
use Rattle.ll_tree.specs.declared.op.PhiEntry.{PhiEntry}
use Rattle.ll_tree.specs.declared.op.SwitchCase.{SwitchCase}
use Rattle.ll_tree.specs.declared.ty.LlType.{LlType}
use Rattle.ll_tree.specs.declared.value.TypedValue.{TypedValue}
use Rattle.ll_tree.specs.declared.value.Value.{Value}
use Rattle.ll_tree.specs.Ops.{op_changed, flag_changed, count_changed, entry_changed, case_changed}
use Rattle.ll_tree.specs.Values.{typed_changed}
use Rattle.ll_parser.specs.GrammarAttributes.{any_attributes}
use Rattle.ll_parser.specs.GrammarInsts.{argument, count, entry, entries, flag, operation, order, switch_case}
use Rattle.ll_parser.specs.GrammarTypes.{ty}
use Rattle.ll_parser.specs.GrammarValues.{local, only, typed, value}
use Rattle.ll_parser.specs.Productions.{Production, ◌>>◌, word, mark, each, each_behind_comma, listed}
use Rattle.ll_parser.specs.Spellings.{integer_value}
use Rattle.ll_one_module.proofs.Readers.{Ahead, Reader, Test, never, begins, done, bind, to, skip, first, choose, many, Reads, Leads, Opens, Weaker, seq, then', skipped, last, made, stopped, first-reads}
use Rattle.ll_one_module.proofs.Fronts.{either, lead-either, opens-left, either-left, either-right, is_mark, outside, lead-each, lead-first, lead-if-there, lead-kind, lead-mark, lead-outside, lead-then, lead-word, opens-first, opens-mark, opens-or, opens-token, opens-word}
use Rattle.ll_one_module.proofs.Lists.{reads-as, reads-absurd, all-read, commas-many, each-reads, listed-reads, only-reads, optional, optional-reads, reads-first, reads-second, separated}
use Rattle.ll_one_module.proofs.NamesFound.{Numbering, read_name, read_number, renamed, name-reads, number-reads}
use Rattle.ll_one_module.proofs.Sorts.{Shows, by_sort, flagged, flag-reads, of-sort, shows-first, shows-word}
use Rattle.ll_one_module.proofs.Tests.{operand_start, pointer_start}
use Rattle.ll_one_module.proofs.TypesFound.{type-opens, type-reads, comma_ahead}
use Rattle.ll_one_module.proofs.ValuesFound.{change, read_type, read_value, typed_with, typed-opens, typed-reads, value-opens, value-reads}
use Rattle.ll_one_module.proofs.Ends.{behind_comma, behind-less, both-read, some-leads, dropped, lead-behind-comma, look_up, opens-behind-comma, passed, passed-reads}
use Rattle.ll_one_module.proofs.AttributesFound.{any-attributes-read, attribute-no-pointer, attribute-outside, head_known, attribute_start, function-attributes-read, open_start, read_attribute, read_function_attributes}
use Rattle.ll_one_module.proofs.OpWords.{Sort, align-leads, align-read, alignment-read, allocas, atomic_start, binaries, binary-shows, branches, calls, cast-shows, casts, compares, convention_start, end-function, end-further, end-pointer, ends, exchanges, extracts, fences, flag-read, flag-starts, flag_start, further, here, inbounds_start, inserts, label_start, loads, members, no-void, not_attached, op_end, order-no-scope, order-read, paths, phis, predicate-known, predicates, read_align, read_flag, read_order, read_scope, returns, rmw-known, scope_start, scopes-read, selects, shuffles, sort_of, stores, switches, tail_start, updates, updates_of, void_start, volatile-no-atomic, volatile_start}

-- readers of an instruction's operands
module _ (look : NameText → ℕ) where
  abbrev one_typed : Reader TypedValue
  one_typed = typed_with look (read_value look)

  unfoldable two_typed : Reader (TypedValue × TypedValue)
  two_typed = bind one_typed (λ a. skip (to (λ b. let pair : TypedValue × TypedValue = (a, b) in pair) one_typed))

  unfoldable three_typed : Reader (TypedValue × TypedValue × TypedValue)
  three_typed = bind two_typed (λ ab. skip (to (λ c. let triple : TypedValue × TypedValue × TypedValue = (ab.0, ab.1, c) in triple) one_typed))

  abbrev one_local : Reader Name
  one_local = read_name look LocalName

  read_entry : Reader PhiEntry
  read_entry = skip (bind (read_value look) (λ v. skip (bind one_local (λ b. skip (done (record { value = v; block = b }))))))

  read_count : Reader AllocaCount
  read_count = skip (bind (read_type look) (λ t. to (λ n. record { ty = t; number = n }) (first (λ l. integer_value l.text))))

  read_label : Reader Name
  read_label = skip one_local

  read_case : Reader SwitchCase
  read_case = bind one_typed (λ v. skip (to (λ b. record { value = v; target = b }) read_label))

  abbrev read_any_attributes : Reader ℕ
  read_any_attributes = dropped (many (begins attribute_start) (read_attribute look))

  read_argument : Reader TypedValue
  read_argument = bind (read_type look) (λ t. bind read_any_attributes (λ _. to (λ v. record { ty = t; value = v }) (read_value look)))

  op_with : Sort → Reader Op
  op_with (binaries k) = skip (bind (many (begins flag_start) read_flag) (λ fs. bind (read_type look) (λ t. bind (read_value look) (λ l. skip (to (λ r. op.Binary k fs t l r) (read_value look))))))
  op_with compares = skip (bind (first (λ l. look_up predicates pred.Eq l.text)) (λ p. bind (read_type look) (λ t. bind (read_value look) (λ l. skip (to (λ r. op.Compare p t l r) (read_value look))))))
  op_with selects = skip (to (λ abc. op.Select abc.0 abc.1 abc.2) three_typed)
  op_with (casts k) = skip (bind one_typed (λ v. skip (to (λ t. op.Cast k v t) (read_type look))))
  op_with phis = skip (bind (read_type look) (λ t. bind read_entry (λ e. to (λ es. op.Phi t (e ∷ es)) (many further (skip read_entry)))))
  op_with allocas = skip (bind (read_type look) (λ t. bind (optional (behind_comma operand_start) read_count) (λ c. to (λ a. op.Alloca t c a) (optional further read_align))))
  op_with loads =
      skip (choose (begins atomic_start)
      (skip (bind (read_type look) (λ t. skip (bind one_typed (λ p. bind (optional (begins scope_start) read_scope) (λ s. bind read_order (λ o. to (λ a. op.AtomicLoad t p s o a) read_align)))))))
      (bind (flagged (begins volatile_start)) (λ v. bind (read_type look) (λ t. skip (bind one_typed (λ p. to (λ a. op.Load v t p a) (optional further read_align)))))))
  op_with stores =
      skip (choose (begins atomic_start)
      (skip (bind two_typed (λ ab. bind (optional (begins scope_start) read_scope) (λ s. bind read_order (λ o. to (λ a. op.AtomicStore ab.0 ab.1 s o a) read_align)))))
      (bind (flagged (begins volatile_start)) (λ v. bind two_typed (λ ab. to (λ a. op.Store v ab.0 ab.1 a) (optional further read_align)))))
  op_with exchanges =
      skip (bind three_typed (λ abc. bind (optional (begins scope_start) read_scope) (λ s. bind read_order (λ e. bind read_order (λ u. to (λ a. op.CompareExchange abc.0 abc.1 abc.2 s e u a) (optional further read_align))))))
  op_with updates =
      skip (bind (first (λ l. look_up updates_of rmw.Xchg l.text)) (λ k. bind two_typed (λ ab. bind (optional (begins scope_start) read_scope) (λ s. bind read_order (λ o. to (λ a. op.AtomicRmw k ab.0 ab.1 s o a) (optional further read_align))))))
  op_with fences = skip (bind (optional (begins scope_start) read_scope) (λ s. to (λ o. op.Fence s o) read_order))
  op_with paths = skip (bind (flagged (begins inbounds_start)) (λ i. bind (read_type look) (λ t. skip (bind one_typed (λ p. to (λ is. op.GetElementPtr i t p is) (many further (skip one_typed)))))))
  op_with extracts = skip (to (λ ab. op.ExtractElement ab.0 ab.1) two_typed)
  op_with inserts = skip (to (λ abc. op.InsertElement abc.0 abc.1 abc.2) three_typed)
  op_with shuffles = skip (to (λ abc. op.ShuffleVector abc.0 abc.1 abc.2) three_typed)
  op_with members = skip (bind one_typed (λ v. skip (to (λ n. op.ExtractValue v n) read_number)))
  op_with calls =
      bind (passed (begins tail_start)) (λ _. skip (bind (passed (begins convention_start)) (λ _. bind read_any_attributes (λ _. bind (read_type look) (λ t. bind (read_name look GlobalName) (λ c.
      skip (bind (separated (begins operand_start) comma_ahead read_argument) (λ gs. skip (to (λ _. op.Call t c gs) read_function_attributes)))))))))
  op_with returns = skip (choose (begins void_start) (skip (done op.ReturnVoid)) (to op.Return one_typed))
  op_with branches =
      skip (choose (begins label_start) (to op.Jump read_label) (bind one_typed (λ c. skip (bind read_label (λ a. skip (to (λ b. op.Branch c a b) read_label))))))
  op_with switches =
      skip (bind one_typed (λ v. skip (bind read_label (λ d. skip (bind (many (begins operand_start) read_case) (λ cs. skip (done (op.Switch v d cs))))))))
  op_with ends = skip (done op.Unreachable)

  pub read_op : Reader Op
  read_op = by_sort here op_with

maybe-shows : {S : Type 0} {sort : List Lexeme → S} {s : S} (p q : Production) → Shows sort p s → Shows sort q s → Shows sort ((λ tokens rest. p tokens rest ⊎ tokens ≡ rest) >> q) s
unfolding ◌>>◌
maybe-shows {S} {sort} {s} p q one two = record { shows = λ tokens rest d. cases tokens d.0 rest d.1 d.2 }
  where
    cases : (tokens middle rest : List Lexeme) → p tokens middle ⊎ tokens ≡ middle → q middle rest → sort tokens ≡ s
    cases tokens middle rest (inl d) more = one.shows tokens middle d
    cases tokens middle rest (inr same) more = ap sort same ∙ two.shows middle rest more

or-shows : {S : Type 0} {sort : List Lexeme → S} {s : S} (p q : Production) → Shows sort p s → Shows sort q s → Shows sort (λ tokens rest. p tokens rest ⊎ q tokens rest) s
or-shows {S} {sort} {s} p q one two = record { shows = λ tokens rest d. cases tokens rest d }
  where
    cases : (tokens rest : List Lexeme) → p tokens rest ⊎ q tokens rest → sort tokens ≡ s
    cases tokens rest (inl d) = one.shows tokens rest d
    cases tokens rest (inr d) = two.shows tokens rest d

lead-under : {u test : Ahead} (condition : Type 0) (p : Production) → (condition → Leads u p test) → Leads u (only condition p) test
lead-under condition p one = record { leads = λ tokens rest d stop. (one d.0).leads tokens rest d.1 stop }

attached-operand : (kind : TokenKind) (text : List ℕ) → not_attached kind text ≡ false → operand_start kind text ≡ false
attached-operand MdName text e = refl
attached-operand kind text e = absurd (true≢false e)

end-count : Weaker op_end (behind_comma operand_start)
end-count tokens e = behind-less not_attached operand_start attached-operand tokens (end-further tokens e)

not-false : (b : Bool) → (b ≡ false → ⊥) → b ≡ true
not-false true h = refl
not-false false h = absurd (h refl)

-- an operand behind a comma goes on
operand-further : {p : Production} → Opens p (begins operand_start) → Opens (mark 44 >> p) further
operand-further {p} one = record { opens = λ tokens rest d. from tokens (far tokens rest d) }
  where
    far : (tokens rest : List Lexeme) → (mark 44 >> p) tokens rest → behind_comma operand_start tokens ≡ true
    far tokens rest d = (opens-behind-comma operand_start one).opens tokens rest d

    from : (tokens : List Lexeme) → behind_comma operand_start tokens ≡ true → further tokens ≡ true
    from tokens e = not-false (further tokens) (λ f. true≢false (sym e ∙ behind-less not_attached operand_start attached-operand tokens f))

module _ (t : Numbering) where
  abbrev made_typed : TypedValue → TypedValue
  made_typed = typed_changed (renamed t) (change t)

  abbrev pub made_op : Op → Op
  made_op = op_changed (renamed t) (λ byte. byte)

  two-reads : {u : Ahead} (a b : TypedValue) → Reads u (typed t.names a >> mark 44 >> typed t.names b) (two_typed t.look) (let pair : TypedValue × TypedValue = (made_typed a, made_typed b) in pair)
  unfolding two_typed
  two-reads a b = then' _ (typed-reads t a) (skipped _ _ (made _ (typed-reads t b)))

  three-reads : {u : Ahead} (a b c : TypedValue) → Reads u ((typed t.names a >> mark 44 >> typed t.names b) >> mark 44 >> typed t.names c) (three_typed t.look) (let triple : TypedValue × TypedValue × TypedValue = (made_typed a, made_typed b, made_typed c) in triple)
  unfolding three_typed
  three-reads a b c = then' _ (two-reads a b) (skipped _ _ (made _ (typed-reads t c)))

  label-reads : {u : Ahead} (name : Name) → Reads u (word (codes "label") >> local t.names name) (read_label t.look) (renamed t name)
  unfolding read_label
  label-reads name = skipped _ _ (name-reads t LocalToken LocalName name)

  entry-reads : {u : Ahead} (x : LlType) (e : PhiEntry) → Reads u (entry t.names x e) (read_entry t.look) (entry_changed (renamed t) (λ byte. byte) e)
  unfolding read_entry
  entry-reads x e = skipped _ _ (then' _ (value-reads t e.value x) (skipped _ _ (then' _ (name-reads t LocalToken LocalName e.block) (last _ _))))

  count-reads : {u : Ahead} (c : AllocaCount) → Reads u (count t.names c) (read_count t.look) (count_changed (renamed t) (λ byte. byte) c)
  unfolding read_count
  count-reads c = skipped _ _ (seq _ (type-reads t c.ty) (lead-kind IntToken _ _ (λ text. refl)) (made _ (first-reads _ _ _ (λ l k d. d.0))))

  case-reads : {u : Ahead} (c : SwitchCase) → Reads u (switch_case t.names c) (read_case t.look) (case_changed (renamed t) (λ byte. byte) c)
  unfolding read_case
  case-reads c = then' _ (typed-reads t c.value) (skipped _ _ (made _ (label-reads c.target)))

  value-no-attribute : {u : Ahead} (v : Value) (x : LlType) → Leads u (value t.names v x) (begins (either attribute_start open_start))
  value-no-attribute v x = lead-either _ _ (lead-outside operand_start _ (value-opens t.names v x)) (lead-outside operand_start _ (value-opens t.names v x))

  type-no-attribute : {u : Ahead} (x : LlType) → Leads u (ty t.names x) (begins (either attribute_start open_start))
  type-no-attribute x = lead-either _ _ (lead-outside operand_start _ (type-opens t.names x)) (lead-outside operand_start _ (type-opens t.names x))

  attributes-no-pointer : {u : Ahead} → Weaker u (begins pointer_start) → Leads u (any_attributes t.names) (begins pointer_start)
  attributes-no-pointer weaker = some-leads _ (λ list. lead-each weaker (attribute-no-pointer t) list)

  argument-reads : {u : Ahead} (a : TypedValue) → Reads u (argument t.names a) (read_argument t.look) (made_typed a)
  unfolding read_argument
  argument-reads a =
      seq _ (type-reads t a.ty) (lead-then (attributes-no-pointer (λ ts e. e)) (lead-outside operand_start _ (value-opens t.names a.value a.ty)))
      (seq _ (any-attributes-read t) (value-no-attribute a.value a.ty) (made _ (value-reads t a.value a.ty)))

  flags-read : (fs : List Flag) → Reads (begins flag_start) (each flag fs) (many (begins flag_start) read_flag) (map (flag_changed (renamed t) (λ byte. byte)) fs)
  flags-read fs =
      each-reads (flag_changed (renamed t) (λ byte. byte)) (λ ts e. e) (λ ts e. refl) (λ f. opens-token Word _ flag_start (λ l d. ap (flag_start Word) d.0 ∙ flag-starts f.word))
      (λ f. record { leads = λ tokens rest d stop. refl }) flag-read fs

  scoped-leads : {u : Ahead} (o : Order) (q : Production) → Leads u (order o >> q) (begins scope_start)
  scoped-leads o q = lead-first q (order-no-scope o)

  value-ahead : {u : Ahead} (v : Value) (x : LlType) (q : Production) → Leads u (value t.names v x >> q) (begins pointer_start)
  value-ahead v x q = lead-first q (lead-outside operand_start _ (value-opens t.names v x))

  type-ahead : {u : Ahead} (test : Test) (x : LlType) (q : Production) → Leads u (ty t.names x >> q) (begins (outside operand_start test))
  type-ahead test x q = lead-first q (lead-outside operand_start test (type-opens t.names x))

  one-sort : {u : Ahead} {o : Op} (p : Production) (sort : Sort) (text : List ℕ) → sort_of Word text ≡ sort → Reads u (word text >> p) (op_with t.look sort) o → Reads u (word text >> p) (read_op t.look) o
  unfolding read_op
  one-sort p sort text is one = of-sort here (op_with t.look) sort (shows-first _ (shows-word ends sort_of text sort is)) one

  call-shows : (x : LlType) (callee : Name) (arguments : List TypedValue) → Shows here (operation t.names (op.Call x callee arguments)) calls
  call-shows x callee arguments =
      maybe-shows _ _ (or-shows _ _ (shows-word ends sort_of (codes "tail") calls refl) (shows-word ends sort_of (codes "notail") calls refl)) (shows-first _ (shows-word ends sort_of (codes "call") calls refl))

  entries-lead : {u : Ahead} (x : LlType) (e : PhiEntry) (es : List PhiEntry) → Leads u (entries t.names x (e ∷ es)) (begins pointer_start)
  entries-lead x e es =
      let front : Leads never (mark 91) (begins pointer_start) = lead-mark 91 _ refl in
      record { leads = λ tokens rest d stop. opens-here tokens rest d }
    where
      opens-here : (tokens rest : List Lexeme) → (entry t.names x e >> each_behind_comma (entry t.names x) es) tokens rest → begins pointer_start tokens ≡ false
      opens-here tokens rest d =
          let front : Leads never (entry t.names x e >> each_behind_comma (entry t.names x) es) (begins pointer_start) = lead-first _ (lead-first _ (lead-mark 91 _ refl)) in
          front.leads tokens rest d refl

  cases-read : (cases : List SwitchCase) → Reads (begins operand_start) (each (switch_case t.names) cases) (many (begins operand_start) (read_case t.look)) (map (case_changed (renamed t) (λ byte. byte)) cases)
  cases-read cases =
      each-reads (case_changed (renamed t) (λ byte. byte)) (λ ts e. e) (λ ts e. refl) (λ c. opens-first _ (typed-opens t.names c.value))
      (λ c. record { leads = λ tokens rest d stop. refl }) case-reads cases

  unreachable-reads : {u : Ahead} → Reads u (word (codes "unreachable")) (read_op t.look) op.Unreachable
  unfolding read_op op_with
  unreachable-reads = of-sort here (op_with t.look) ends (shows-word ends sort_of (codes "unreachable") ends refl) (last _ _)

  abbrev args_end : Test
  args_end = either operand_start (is_mark 44)

  arguments-read : (list : List TypedValue) → Reads (begins args_end) (listed (argument t.names) list) (separated (begins operand_start) comma_ahead (read_argument t.look)) (map made_typed list)
  arguments-read list =
      listed-reads made_typed (either-left _ _) (either-right operand_start _) (λ ts e. refl) (record { leads = λ tokens rest d stop. refl })
      (λ a. opens-first _ (type-opens t.names a.ty)) (λ a. opens-first _ (opens-mark 44 (is_mark 44) refl)) argument-reads list

  call-reads : (x : LlType) (callee : Name) (arguments : List TypedValue) → Reads op_end (operation t.names (op.Call x callee arguments)) (read_op t.look) (op.Call (change t x) (renamed t callee) (map made_typed arguments))
  unfolding read_op op_with
  call-reads x callee arguments =
      of-sort here (op_with t.look) calls (call-shows x callee arguments)
      (seq _ (passed-reads _ (begins tail_start) (opens-or _ _ (opens-word (codes "tail") tail_start refl) (opens-word (codes "notail") tail_start refl)) (both-read _ _ (last _ _) (last _ _)) (λ ts e. e)) (lead-first _ (lead-word (codes "call") _ refl))
      (skipped _ _ (seq _ (passed-reads _ (begins convention_start) (opens-or _ _ (opens-word (codes "spir_kernel") convention_start refl) (opens-word (codes "spir_func") convention_start refl)) (both-read _ _ (last _ _) (last _ _)) (λ ts e. e))
      (lead-then (some-leads _ (λ list. lead-each (λ ts e. e) (λ a. attribute-outside t _ a) list)) (lead-first _ (lead-outside head_known _ (opens-left operand_start attribute_start (type-opens t.names x)))))
      (seq _ (any-attributes-read t) (lead-first _ (type-no-attribute x)) (seq _ (type-reads t x) (lead-first _ (lead-kind GlobalToken _ _ (λ text. refl)))
      (then' _ (name-reads t GlobalToken GlobalName callee) (skipped _ _ (seq _ (arguments-read arguments) (lead-first _ (lead-mark 41 args_end refl)) (skipped _ _ (made _ (stopped end-function function-attributes-read)))))))))))

  pub op-reads : (o : Op) → Reads op_end (operation t.names o) (read_op t.look) (made_op o)
  unfolding op_with
  op-reads (op.Binary kind fs x left right) =
      one-sort _ (binaries kind) _ (binary-shows kind)
      (skipped _ _ (seq _ (flags-read fs) (type-ahead _ x _) (seq _ (type-reads t x) (value-ahead left x _) (then' _ (value-reads t left x) (skipped _ _ (made _ (value-reads t right x)))))))
  op-reads (op.Compare p x left right) =
      one-sort _ compares (codes "icmp") refl
      (skipped _ _ (then' _ (first-reads _ _ _ (λ l k w. ap (look_up predicates pred.Eq) w ∙ predicate-known p)) (seq _ (type-reads t x) (value-ahead left x _) (then' _ (value-reads t left x) (skipped _ _ (made _ (value-reads t right x)))))))
  op-reads (op.Select condition accepted rejected) = one-sort _ selects (codes "select") refl (skipped _ _ (made _ (three-reads condition accepted rejected)))
  op-reads (op.Cast kind operand to') =
      one-sort _ (casts kind) _ (cast-shows kind) (skipped _ _ (then' _ (typed-reads t operand) (skipped _ _ (made _ (stopped end-pointer (type-reads t to'))))))
  op-reads (op.Phi x []) = one-sort _ phis (codes "phi") refl (skipped _ _ (seq _ (type-reads t x) (record { leads = λ tokens rest d stop. absurd d }) (reads-absurd (λ tokens rest d. d))))
  op-reads (op.Phi x (e ∷ es)) =
      one-sort _ phis (codes "phi") refl
      (skipped _ _ (seq _ (type-reads t x) (entries-lead x e es)
      (reads-as (λ tokens rest d. d) (then' _ (entry-reads x e)
      (made _ (all-read (commas-many (entry_changed (renamed t) (λ byte. byte)) end-further (λ ts e. refl) (record { leads = λ tokens rest d stop. refl })
      (λ e. opens-behind-comma not_attached (opens-first _ (opens-mark 91 not_attached refl))) (entry-reads x) es)))))))
  op-reads (op.Alloca x c bytes) =
      one-sort _ allocas (codes "alloca") refl
      (skipped _ _ (seq _ (type-reads t x) (lead-then (lead-if-there (λ ts e. e) (λ c. lead-first _ (lead-mark 44 pointer_start refl)) c) (align-leads pointer_start end-pointer refl bytes))
      (seq _ (optional-reads (count_changed (renamed t) (λ byte. byte)) (λ ts e. e) (λ c. opens-behind-comma operand_start (opens-first _ (type-opens t.names c.ty))) count-reads c)
      (lead-if-there end-count (λ b. lead-behind-comma operand_start (lead-first _ (lead-word (codes "align") operand_start refl))) bytes)
      (made _ (align-read end-further bytes)))))
  op-reads (op.Load volatile x pointer bytes) =
      one-sort _ loads (codes "load") refl
      (skipped _ _ (reads-second _ _ (volatile-no-atomic volatile _ (type-ahead _ x _))
      (seq _ (flag-reads (begins volatile_start) (codes "volatile") (opens-word (codes "volatile") volatile_start refl) (λ ts e. e) volatile) (type-ahead _ x _)
      (seq _ (type-reads t x) (lead-first _ (lead-mark 44 _ refl)) (skipped _ _ (then' _ (typed-reads t pointer) (made _ (align-read end-further bytes))))))))
  op-reads (op.Store volatile stored pointer bytes) =
      one-sort _ stores (codes "store") refl
      (skipped _ _ (reads-second _ _ (volatile-no-atomic volatile _ (lead-first _ (lead-first _ (lead-outside operand_start _ (typed-opens t.names stored)))))
      (seq _ (flag-reads (begins volatile_start) (codes "volatile") (opens-word (codes "volatile") volatile_start refl) (λ ts e. e) volatile) (lead-first _ (lead-first _ (lead-outside operand_start _ (typed-opens t.names stored))))
      (then' _ (two-reads stored pointer) (made _ (align-read end-further bytes))))))
  op-reads (op.AtomicLoad x pointer sc o bytes) =
      one-sort _ loads (codes "load") refl
      (skipped _ _ (reads-first _ _ (opens-first _ (opens-word (codes "atomic") atomic_start refl))
      (skipped _ _ (seq _ (type-reads t x) (lead-first _ (lead-mark 44 _ refl)) (skipped _ _ (then' _ (typed-reads t pointer)
      (seq _ (scopes-read sc) (scoped-leads o _) (then' _ (order-read o) (made _ (alignment-read bytes))))))))))
  op-reads (op.AtomicStore stored pointer sc o bytes) =
      one-sort _ stores (codes "store") refl
      (skipped _ _ (reads-first _ _ (opens-first _ (opens-word (codes "atomic") atomic_start refl))
      (skipped _ _ (then' _ (two-reads stored pointer) (seq _ (scopes-read sc) (scoped-leads o _) (then' _ (order-read o) (made _ (alignment-read bytes))))))))
  op-reads (op.CompareExchange pointer comparator new sc equal unequal bytes) =
      one-sort _ exchanges (codes "cmpxchg") refl
      (skipped _ _ (then' _ (three-reads pointer comparator new) (seq _ (scopes-read sc) (scoped-leads equal _)
      (then' _ (order-read equal) (then' _ (order-read unequal) (made _ (align-read end-further bytes)))))))
  op-reads (op.AtomicRmw kind pointer operand sc o bytes) =
      one-sort _ updates (codes "atomicrmw") refl
      (skipped _ _ (then' _ (first-reads _ _ _ (λ l k w. ap (look_up updates_of rmw.Xchg) w ∙ rmw-known kind)) (then' _ (two-reads pointer operand) (seq _ (scopes-read sc) (scoped-leads o _)
      (then' _ (order-read o) (made _ (align-read end-further bytes)))))))
  op-reads (op.Fence sc o) = one-sort _ fences (codes "fence") refl (skipped _ _ (seq _ (scopes-read sc) (order-no-scope o) (made _ (order-read o))))
  op-reads (op.GetElementPtr inbounds x pointer []) =
      one-sort _ paths (codes "getelementptr") refl
      (skipped _ _ (seq _ (flag-reads (begins inbounds_start) (codes "inbounds") (opens-word (codes "inbounds") inbounds_start refl) (λ ts e. e) inbounds) (type-ahead _ x _)
      (seq _ (type-reads t x) (lead-first _ (lead-mark 44 _ refl)) (skipped _ _ (then' _ (typed-reads t pointer) (reads-absurd (λ tokens rest d. d)))))))
  op-reads (op.GetElementPtr inbounds x pointer (i ∷ is)) =
      one-sort _ paths (codes "getelementptr") refl
      (skipped _ _ (seq _ (flag-reads (begins inbounds_start) (codes "inbounds") (opens-word (codes "inbounds") inbounds_start refl) (λ ts e. e) inbounds) (type-ahead _ x _)
      (seq _ (type-reads t x) (lead-first _ (lead-mark 44 _ refl)) (skipped _ _ (then' _ (typed-reads t pointer)
      (reads-as (λ tokens rest d. d) (made _ (all-read (commas-many made_typed end-further (λ ts e. refl) (record { leads = λ tokens rest d stop. refl }) (λ v. operand-further (typed-opens t.names v)) (typed-reads t) (i ∷ is))))))))))
  op-reads (op.ExtractElement vector index) = one-sort _ extracts (codes "extractelement") refl (skipped _ _ (made _ (two-reads vector index)))
  op-reads (op.InsertElement vector element index) = one-sort _ inserts (codes "insertelement") refl (skipped _ _ (made _ (three-reads vector element index)))
  op-reads (op.ShuffleVector left right mask) = one-sort _ shuffles (codes "shufflevector") refl (skipped _ _ (made _ (three-reads left right mask)))
  op-reads (op.ExtractValue aggregate index) = one-sort _ members (codes "extractvalue") refl (skipped _ _ (then' _ (typed-reads t aggregate) (skipped _ _ (made _ (number-reads index)))))
  op-reads (op.Call x callee arguments) = call-reads x callee arguments
  op-reads op.ReturnVoid = one-sort _ returns (codes "ret") refl (skipped _ _ (reads-first _ _ (opens-word (codes "void") void_start refl) (last _ _)))
  op-reads (op.Return given) =
      one-sort _ returns (codes "ret") refl
      (skipped _ _ (reads-second _ _ (lead-under _ _ (λ c. lead-first _ (lead-first _ (no-void t.names given.ty.base c)))) (made _ (only-reads _ _ (λ c. typed-reads t given)))))
  op-reads (op.Jump target) =
      one-sort _ branches (codes "br") refl (skipped _ _ (reads-first _ _ (opens-first _ (opens-word (codes "label") label_start refl)) (made _ (label-reads target))))
  op-reads (op.Branch condition accepted rejected) =
      one-sort _ branches (codes "br") refl
      (skipped _ _ (reads-second _ _ (lead-first _ (lead-outside operand_start _ (typed-opens t.names condition)))
      (then' _ (typed-reads t condition) (skipped _ _ (then' _ (label-reads accepted) (skipped _ _ (made _ (label-reads rejected))))))))
  op-reads (op.Switch selector default cases) =
      one-sort _ switches (codes "switch") refl
      (skipped _ _ (then' _ (typed-reads t selector) (skipped _ _ (then' _ (label-reads default) (skipped _ _ (seq _ (cases-read cases) (lead-mark 93 operand_start refl) (last _ _)))))))
  op-reads op.Unreachable = unreachable-reads
