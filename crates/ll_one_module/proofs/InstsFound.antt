-- Instructions with their names, and blocks, as readers find them.
use Rattle.std.proofs.Common.{◌≡◌, ℕ, zero, ◌+◌, Bool, true, false, true≢false, if◌then◌else◌, IsTrue, ◌||◌, ◌⊎◌, List, [], ◌∷◌, drop, codes, bytes_eq, Option, None, Some, refl, sym, ap, ap₂, ◌∙◌, subst, inl, inr}
use Rattle.std.specs.Cmp.Lexicographic.{bytes_decides}
use Rattle.std.specs.List.{list_any}
use Rattle.kern_lanes.specs.declared.binary.BinOp.{BinOp}
use Rattle.kern_lanes.specs.declared.binary.BinOp.TheVariants as bin
use Rattle.ll_tokens.specs.declared.kinds.TokenKind.{TokenKind}
use Rattle.ll_tokens.specs.declared.kinds.TokenKind.TheVariants.{Word, Local as LocalToken, MdName}
use Rattle.ll_tokens.specs.Tokens.{Lexeme}
use Rattle.ll_tree.specs.declared.inst.Inst.{Inst}
use Rattle.ll_tree.specs.declared.module.NodeRef.{NodeRef}
use Rattle.ll_tree.specs.declared.name.Name.{Name}
use Rattle.ll_tree.specs.declared.name.NameKind.TheVariants.{Local as LocalName}
use Rattle.ll_tree.specs.declared.name.NameText.{NameText}
use Rattle.ll_tree.specs.declared.name.Spelling.{Spelling}
use Rattle.ll_tree.specs.declared.name.Spelling.TheVariants.{Number}
use Rattle.ll_tree.specs.declared.op.CastKind.{CastKind}
use Rattle.ll_tree.specs.declared.op.CastKind.TheVariants as conversion
use Rattle.ll_tree.specs.declared.op.Op.{Op}
use Rattle.ll_tree.specs.declared.op.Op.TheVariants as op
use Rattle.ll_tree.specs.declared.ty.TypeBase.{TypeBase, Void}
use Rattle.ll_tree.specs.Insts.{inst_changed}
use Rattle.ll_tree.specs.Types.{base_changed}
use Rattle.ll_parser.specs.GrammarAttributes.{any_attachments}
use Rattle.ll_parser.specs.GrammarFunctions.{IsNumbered, begins_at, given, has_value, inst, is_terminator, is_void_base, naming, next_after, next_behind}
use Rattle.ll_parser.specs.GrammarInsts.{binary_word, operation}
use Rattle.ll_parser.specs.GrammarValues.{cast_word, local}
use Rattle.ll_parser.specs.Productions.{Production, ◌>>◌, mark}
use Rattle.ll_parser.specs.Spellings.{Spells, spelling_of}
use Rattle.ll_one_module.proofs.Readers.{Ahead, Reader, Test, begins, done, bind, to, skip, first, first_of, choose, many, Found, Reads, Leads, Opens, Weaker, bind-found, seq, then', skipped, last, made, at, stopped, first-reads}
use Rattle.ll_one_module.proofs.Fronts.{either, either-left, either-right, is_mark, is_one_of, lead-each, lead-first, lead-kind, lead-mark, opens-first, opens-mark, opens-token, opens-word, opens-or}
use Rattle.ll_one_module.proofs.Lists.{each-reads, reads-as, reads-first, reads-second}
use Rattle.ll_one_module.proofs.NamesFound.{Numbering, renamed}
use Rattle.ll_one_module.proofs.Ends.{dropped, lead-behind-comma, no-comma, some-leads, some-reads}
use Rattle.ll_one_module.proofs.TypesFound.{is-true}
use Rattle.ll_one_module.proofs.OpWords.{further, not_attached, op_end, trailing}
use Rattle.ll_one_module.proofs.OpsFound.{made_op, read_op, op-reads}

-- the words of instructions
abbrev pub op_words : List (List ℕ)
op_words =
    codes "add" ∷ codes "sub" ∷ codes "mul" ∷ codes "udiv" ∷ codes "sdiv" ∷ codes "urem" ∷ codes "srem" ∷ codes "shl" ∷ codes "lshr" ∷ codes "ashr" ∷ codes "and" ∷ codes "or" ∷ codes "xor" ∷
    codes "icmp" ∷ codes "select" ∷ codes "trunc" ∷ codes "zext" ∷ codes "sext" ∷ codes "ptrtoint" ∷ codes "inttoptr" ∷ codes "bitcast" ∷ codes "addrspacecast" ∷ codes "phi" ∷ codes "alloca" ∷
    codes "load" ∷ codes "store" ∷ codes "cmpxchg" ∷ codes "atomicrmw" ∷ codes "fence" ∷ codes "getelementptr" ∷ codes "extractelement" ∷ codes "insertelement" ∷ codes "shufflevector" ∷
    codes "extractvalue" ∷ codes "tail" ∷ codes "notail" ∷ codes "call" ∷ codes "ret" ∷ codes "br" ∷ codes "switch" ∷ codes "unreachable" ∷ []

abbrev op_start : Test
op_start Word text = is_one_of op_words text
op_start _ text = false

binary-starts : (k : BinOp) → op_start Word (binary_word k) ≡ true
binary-starts bin.Add = refl
binary-starts bin.Sub = refl
binary-starts bin.Mul = refl
binary-starts bin.UDiv = refl
binary-starts bin.SDiv = refl
binary-starts bin.URem = refl
binary-starts bin.SRem = refl
binary-starts bin.Shl = refl
binary-starts bin.LShr = refl
binary-starts bin.AShr = refl
binary-starts bin.And = refl
binary-starts bin.Or = refl
binary-starts bin.Xor = refl

cast-starts : (k : CastKind) → op_start Word (cast_word k) ≡ true
cast-starts conversion.Trunc = refl
cast-starts conversion.Zext = refl
cast-starts conversion.Sext = refl
cast-starts conversion.PtrToInt = refl
cast-starts conversion.IntToPtr = refl
cast-starts conversion.Bitcast = refl
cast-starts conversion.AddrSpaceCast = refl

maybe-opens : {test : Ahead} (p q : Production) → Opens p test → Opens q test → Opens ((λ tokens rest. p tokens rest ⊎ tokens ≡ rest) >> q) test
unfolding ◌>>◌
maybe-opens {test} p q one two = record { opens = λ tokens rest d. cases tokens d.0 rest d.1 d.2 }
  where
    cases : (tokens middle rest : List Lexeme) → p tokens middle ⊎ tokens ≡ middle → q middle rest → test tokens ≡ true
    cases tokens middle rest (inl d) more = one.opens tokens middle d
    cases tokens middle rest (inr same) more = ap test same ∙ two.opens middle rest more

op-opens : (names : List NameText) (o : Op) → Opens (operation names o) (begins op_start)
op-opens names (op.Binary kind flags x left right) = opens-first _ (opens-word (binary_word kind) op_start (binary-starts kind))
op-opens names (op.Compare p x left right) = opens-first _ (opens-word (codes "icmp") op_start refl)
op-opens names (op.Select condition accepted rejected) = opens-first _ (opens-word (codes "select") op_start refl)
op-opens names (op.Cast kind operand to') = opens-first _ (opens-word (cast_word kind) op_start (cast-starts kind))
op-opens names (op.Phi x es) = opens-first _ (opens-word (codes "phi") op_start refl)
op-opens names (op.Alloca x c bytes) = opens-first _ (opens-word (codes "alloca") op_start refl)
op-opens names (op.Load volatile x pointer bytes) = opens-first _ (opens-word (codes "load") op_start refl)
op-opens names (op.Store volatile stored pointer bytes) = opens-first _ (opens-word (codes "store") op_start refl)
op-opens names (op.AtomicLoad x pointer sc o bytes) = opens-first _ (opens-word (codes "load") op_start refl)
op-opens names (op.AtomicStore stored pointer sc o bytes) = opens-first _ (opens-word (codes "store") op_start refl)
op-opens names (op.CompareExchange pointer comparator new sc equal unequal bytes) = opens-first _ (opens-word (codes "cmpxchg") op_start refl)
op-opens names (op.AtomicRmw kind pointer operand sc o bytes) = opens-first _ (opens-word (codes "atomicrmw") op_start refl)
op-opens names (op.Fence sc o) = opens-first _ (opens-word (codes "fence") op_start refl)
op-opens names (op.GetElementPtr inbounds x pointer is) = opens-first _ (opens-word (codes "getelementptr") op_start refl)
op-opens names (op.ExtractElement vector index) = opens-first _ (opens-word (codes "extractelement") op_start refl)
op-opens names (op.InsertElement vector element index) = opens-first _ (opens-word (codes "insertelement") op_start refl)
op-opens names (op.ShuffleVector left right mask) = opens-first _ (opens-word (codes "shufflevector") op_start refl)
op-opens names (op.ExtractValue aggregate index) = opens-first _ (opens-word (codes "extractvalue") op_start refl)
op-opens names (op.Call x callee arguments) =
    maybe-opens _ _ (opens-or _ _ (opens-word (codes "tail") op_start refl) (opens-word (codes "notail") op_start refl)) (opens-first _ (opens-word (codes "call") op_start refl))
op-opens names op.ReturnVoid = opens-first _ (opens-word (codes "ret") op_start refl)
op-opens names (op.Return given) = opens-first _ (opens-word (codes "ret") op_start refl)
op-opens names (op.Jump target) = opens-first _ (opens-word (codes "br") op_start refl)
op-opens names (op.Branch condition accepted rejected) = opens-first _ (opens-word (codes "br") op_start refl)
op-opens names (op.Switch selector default cases) = opens-first _ (opens-word (codes "switch") op_start refl)
op-opens names op.Unreachable = opens-word (codes "unreachable") op_start refl

-- what no word of an instruction passes
abbrev pub none_of : (List ℕ → Bool) → List (List ℕ) → Bool
none_of t [] = true
none_of t (w ∷ words) = if t w then false else none_of t words

others : (a b : Bool) → (if a then false else b) ≡ true → (a ≡ false) × (b ≡ true)
others true b e = absurd (true≢false (sym e))
others false b e = (refl, e)

none-at : (t : List ℕ → Bool) (w : List ℕ) (words : List (List ℕ)) (text : List ℕ) → t w ≡ false → (list_any (bytes_eq text) words ≡ true → t text ≡ false) → (b : Bool) → bytes_eq text w ≡ b → (b || list_any (bytes_eq text) words) ≡ true → t text ≡ false
none-at t w words text fails later true same there = ap t ((bytes_decides text w).0 same) ∙ fails
none-at t w words text fails later false same there = later there

pub none-passes : (t : List ℕ → Bool) (words : List (List ℕ)) (text : List ℕ) → list_any (bytes_eq text) words ≡ true → none_of t words ≡ true → t text ≡ false
none-passes t [] text there all = absurd (true≢false (sym there))
none-passes t (w ∷ words) text there all = none-at t w words text (others (t w) _ all).0 (λ later. none-passes t words text later (others (t w) _ all).1) (bytes_eq text w) refl there

pub op-fails : {u : Ahead} (t : Test) → none_of (t Word) op_words ≡ true → (names : List NameText) (o : Op) → Leads u (operation names o) (begins t)
unfolding begins
op-fails {u} t all names o = record { leads = λ tokens rest d stop. fails tokens ((op-opens names o).opens tokens rest d) }
  where
    at-kind : (kind : TokenKind) (text : List ℕ) → op_start kind text ≡ true → t kind text ≡ false
    at-kind Word text e = none-passes (t Word) op_words text e all
    at-kind kind text e = absurd (true≢false (sym e))

    fails : (tokens : List Lexeme) → begins op_start tokens ≡ true → begins t tokens ≡ false
    fails [] e = absurd (true≢false (sym e))
    fails (l ∷ ls) e = at-kind l.kind l.text e

-- what an instruction is isn't changed
pub terminator-kept : (t : Numbering) (o : Op) → is_terminator (made_op t o) ≡ is_terminator o
terminator-kept t op.Unreachable = refl
terminator-kept t other = refl

void-kept : (t : Numbering) (b : TypeBase) (pointers : List ℕ) → is_void_base (base_changed (renamed t) b) pointers ≡ is_void_base b pointers
void-kept t Void pointers = refl
void-kept t other pointers = refl

value-kept : (t : Numbering) (o : Op) → has_value (made_op t o) ≡ has_value o
value-kept t (op.Call x callee arguments) = ap (λ b. if b then false else true) (void-kept t x.base x.pointers)
value-kept t other = refl

-- attachments
pub read_attachments : Reader ℕ
read_attachments = dropped (many (begins (is_mark 44)) (skip (skip (skip (done zero)))))

pub attachments-read : Reads (begins (is_mark 44)) any_attachments read_attachments zero
unfolding read_attachments
attachments-read =
    some-reads _ (λ list. each-reads (λ a. zero) (λ ts e. e) (λ ts e. refl) (λ a. opens-first _ (opens-mark 44 (is_mark 44) refl)) (λ a. record { leads = λ tokens rest d stop. refl })
    (λ (a : List ℕ × NodeRef). skipped _ _ (skipped _ _ (last _ _))) list)

-- what doesn't follow an instruction with its attachments
abbrev pub inst_end : Test
inst_end = either (is_mark 44) trailing

end-op : Weaker (begins inst_end) op_end
unfolding op_end
end-op tokens e =
    let comma : further tokens ≡ false = no-comma not_attached tokens (either-left (is_mark 44) trailing tokens e) in
    ap (λ b. if b then true else begins trailing tokens) comma ∙ either-right (is_mark 44) trailing tokens e

lead-op-end : {u : Ahead} {p : Production} → Leads u p further → Leads u p (begins trailing) → Leads u p op_end
unfolding op_end
lead-op-end {u} {p} one two = record {
  leads = λ tokens rest d stop. ap (λ b. if b then true else begins trailing tokens) (one.leads tokens rest d stop) ∙ two.leads tokens rest d stop;
}

attachments-lead : Leads (begins inst_end) any_attachments op_end
attachments-lead =
    some-leads _ (λ list. lead-each end-op (λ (a : List ℕ × NodeRef). lead-op-end (lead-behind-comma not_attached (lead-first _ (lead-kind MdName _ _ (λ text. refl)))) (lead-first _ (lead-mark 44 trailing refl))) list)

-- the place of the first token
unfoldable pub read_byte : Reader ℕ
read_byte n tokens = ((first_of tokens).byte, tokens)

pub placed-reads : {X : Type 0} {u : Ahead} {p : Production} {x : X} (names : List NameText) (k : ℕ → Reader X) (byte : ℕ) → Reads u p (k byte) x → Reads u (λ tokens rest. begins_at names byte tokens × p tokens rest) (bind read_byte k) x
unfolding read_byte
placed-reads {X} {u} {p} {x} names k byte one = record { reads = λ tokens rest d stop. bind-found read_byte k byte x tokens tokens rest (byte-found tokens d.0) (one.reads tokens rest d.1 stop) }
  where
    byte-found : (tokens : List Lexeme) → begins_at names byte tokens → Found read_byte tokens byte tokens
    byte-found [] at' = absurd at'
    byte-found (l ∷ ls) at' = record { fuel = 0; is = λ n le. ap (λ (b : ℕ). let q : ℕ × List Lexeme = (b, l ∷ ls) in q) at' }

-- the next number behind a spelling
abbrev pub behind_spelling : Spelling → ℕ → ℕ
behind_spelling spelling next = next_behind [] (Some (record { kind = LocalName; spelling = spelling })) next

module _ (look : NameText → ℕ) where
  abbrev pub numbered : ℕ → ℕ
  numbered next = look (record { kind = LocalName; spelling = Number next })

  abbrev without_name : ℕ → ℕ → Op → Inst × ℕ
  without_name next byte o =
      if has_value o then (let r : Inst × ℕ = (record { byte = byte; defines = Some (record { number = numbered next; byte = byte }); op = o }, next + 1) in r)
      else (let r : Inst × ℕ = (record { byte = byte; defines = None; op = o }, next) in r)

  read_unnamed : ℕ → ℕ → Reader (Inst × ℕ)
  read_unnamed next byte = bind (read_op look) (λ o. to (λ _. without_name next byte o) read_attachments)

  abbrev pub name_and_next : ℕ → Lexeme → Name × ℕ
  name_and_next next l =
      (record { number = look (record { kind = LocalName; spelling = spelling_of (drop 1 l.text) }); byte = l.byte }, behind_spelling (spelling_of (drop 1 l.text)) next)

  read_named : ℕ → ℕ → Reader (Inst × ℕ)
  read_named next byte =
      bind (first (name_and_next next)) (λ a. skip (bind (read_op look) (λ o. to (λ _. let r : Inst × ℕ = (record { byte = byte; defines = Some a.0; op = o }, a.1) in r) read_attachments)))

  abbrev local_start : Test
  local_start LocalToken text = true
  local_start _ text = false

  pub read_inst : ℕ → Reader (Inst × ℕ)
  read_inst next = bind read_byte (λ byte. choose (begins local_start) (read_named next byte) (read_unnamed next byte))

module _ (t : Numbering) where
  abbrev pub made_inst : Inst → Inst
  made_inst = inst_changed (renamed t) (λ byte. byte)

  pub spelled-next : (name : Name) (next : ℕ) (l : Lexeme) → Spells t.names LocalName (drop 1 l.text) name.number → behind_spelling (spelling_of (drop 1 l.text)) next ≡ next_after t.names (name.number ∷ []) next
  spelled-next name next l d = ap (λ e. next_behind [] e next) (sym d.1)

  named-reads : (next byte : ℕ) (o : Op) (name : Name) → Reads (begins inst_end) (local t.names name >> mark 61 >> operation t.names o >> any_attachments) (read_named t.look next byte)
      (let r : Inst × ℕ = (made_inst (record { byte = byte; defines = Some name; op = o }), next_after t.names (name.number ∷ []) next) in r)
  unfolding read_named
  named-reads next byte o name =
      then' _ (first-reads (name_and_next t.look next) _ _ (λ l k d.
      ap₂ (λ (a : Name) (b : ℕ). let r : Name × ℕ = (a, b) in r)
      (ap₂ (λ (n : ℕ) (b : ℕ). let named : Name = record { number = n; byte = b } in named) (sym (t.found name.number _ d.1.1)) (sym d.0))
      (spelled-next name next l d.1)))
      (skipped _ _ (seq _ (op-reads t o) attachments-lead (made _ (stopped (either-left _ _) attachments-read))))

  unnamed-reads : (next byte : ℕ) (o : Op) → Reads (begins inst_end) (operation t.names o >> any_attachments) (read_unnamed t.look next byte) (without_name t.look next byte (made_op t o))
  unfolding read_unnamed
  unnamed-reads next byte o = seq _ (op-reads t o) attachments-lead (made _ (stopped (either-left _ _) attachments-read))

  no-value : (next byte : ℕ) (o : Op) → has_value o ≡ false → without_name t.look next byte (made_op t o) ≡ (made_inst (record { byte = byte; defines = None; op = o }), next)
  no-value next byte o e =
      ap (λ b. if b then (let r : Inst × ℕ = (record { byte = byte; defines = Some (record { number = numbered t.look next; byte = byte }); op = made_op t o }, next + 1) in r)
      else (let r : Inst × ℕ = (record { byte = byte; defines = None; op = made_op t o }, next) in r)) (value-kept t o ∙ e)

  a-value : (next byte : ℕ) (o : Op) (name : Name) → IsTrue (has_value o) → IsNumbered t.names name.number next → name.byte ≡ byte →
      without_name t.look next byte (made_op t o) ≡ (made_inst (record { byte = byte; defines = Some name; op = o }), next_after t.names (name.number ∷ []) next)
  a-value next byte o name has numbered' place =
      ap (λ b. if b then (let r : Inst × ℕ = (record { byte = byte; defines = Some (record { number = numbered t.look next; byte = byte }); op = made_op t o }, next + 1) in r)
      else (let r : Inst × ℕ = (record { byte = byte; defines = None; op = made_op t o }, next) in r)) (value-kept t o ∙ is-true (has_value o) has)
      ∙ ap₂ (λ (n : Name) (m : ℕ). let r : Inst × ℕ = (record { byte = byte; defines = Some n; op = made_op t o }, m) in r)
      (ap₂ (λ (n : ℕ) (b : ℕ). let named : Name = record { number = n; byte = b } in named) (sym (t.found name.number _ numbered')) (sym place))
      (ap (λ e. next_behind [] e next) (sym numbered'))

  inst-cases : (next byte : ℕ) (o : Op) (defines : Option Name) (tokens middle rest : List Lexeme) → naming t.names next byte o defines tokens middle → (operation t.names o >> any_attachments) middle rest → begins inst_end rest ≡ false →
      Found (choose (begins (local_start t.look)) (read_named t.look next byte) (read_unnamed t.look next byte)) tokens (let r : Inst × ℕ = (made_inst (record { byte = byte; defines = defines; op = o }), next_after t.names (given t.names defines) next) in r) rest
  unfolding ◌>>◌
  inst-cases next byte o None tokens middle rest (no', same) d stop =
      let d' : (operation t.names o >> any_attachments) tokens rest = subst (λ ts. (operation t.names o >> any_attachments) ts rest) (sym same) d in
      (reads-second _ (read_named t.look next byte) (lead-first _ (op-fails (local_start t.look) refl t.names o)) (at (no-value next byte o no') (unnamed-reads next byte o))).reads tokens rest d' stop
  inst-cases next byte o (Some name) tokens middle rest (inl (may, (m, local', equals))) d stop =
      (reads-first _ (read_unnamed t.look next byte) (opens-first _ (opens-token LocalToken _ (local_start t.look) (λ l w. refl))) (named-reads next byte o name)).reads tokens rest (m, local', (middle, equals, d)) stop
  inst-cases next byte o (Some name) tokens middle rest (inr ((has, numbered', place), same)) d stop =
      let d' : (operation t.names o >> any_attachments) tokens rest = subst (λ ts. (operation t.names o >> any_attachments) ts rest) (sym same) d in
      (reads-second _ (read_named t.look next byte) (lead-first _ (op-fails (local_start t.look) refl t.names o)) (at (a-value next byte o name has numbered' place) (unnamed-reads next byte o))).reads tokens rest d' stop

  inst-body-reads : (next : ℕ) (i : Inst) → Reads (begins inst_end) (naming t.names next i.byte i.op i.defines >> operation t.names i.op >> any_attachments) (choose (begins (local_start t.look)) (read_named t.look next i.byte) (read_unnamed t.look next i.byte))
      (let r : Inst × ℕ = (made_inst i, next_after t.names (given t.names i.defines) next) in r)
  unfolding ◌>>◌
  inst-body-reads next i = record { reads = λ tokens rest d stop. inst-cases next i.byte i.op i.defines tokens d.0 rest d.1 d.2 stop }

  pub inst-reads : (next : ℕ) (i : Inst) → Reads (begins inst_end) (inst t.names next i) (read_inst t.look next) (let r : Inst × ℕ = (made_inst i, next_after t.names (given t.names i.defines) next) in r)
  unfolding read_inst
  inst-reads next i = reads-as (λ tokens rest d. d) (placed-reads t.names _ i.byte (inst-body-reads next i))
