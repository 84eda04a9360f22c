-- Words of instructions, what may follow an instruction, and parts of instructions as readers find them.
use Rattle.std.proofs.Common.{◌≡◌, ℕ, Bool, true, false, if◌then◌else◌, List, [], ◌∷◌, codes, Option, None, Some, option_map, true≢false, refl, ap, ap₂, ◌∙◌}
use Rattle.kern_lanes.specs.declared.binary.BinOp.{BinOp}
use Rattle.kern_lanes.specs.declared.binary.BinOp.TheVariants as bin
use Rattle.kern_lanes.specs.declared.comparison.Pred.{Pred}
use Rattle.kern_lanes.specs.declared.comparison.Pred.TheVariants as pred
use Rattle.kern_lanes.specs.declared.atomic.RmwOp.{RmwOp}
use Rattle.kern_lanes.specs.declared.atomic.RmwOp.TheVariants as rmw
use Rattle.ll_tokens.specs.declared.kinds.TokenKind.{TokenKind}
use Rattle.ll_tokens.specs.declared.kinds.TokenKind.TheVariants.{Word, Punct, Local as LocalToken, MdName}
use Rattle.ll_tokens.specs.Tokens.{Lexeme}
use Rattle.ll_tree.specs.declared.name.NameText.{NameText}
use Rattle.ll_tree.specs.declared.op.CastKind.{CastKind}
use Rattle.ll_tree.specs.declared.op.CastKind.TheVariants as conversion
use Rattle.ll_tree.specs.declared.op.Flag.{Flag}
use Rattle.ll_tree.specs.declared.op.FlagWord.{FlagWord}
use Rattle.ll_tree.specs.declared.op.FlagWord.TheVariants.{Nuw, Nsw, Exact}
use Rattle.ll_tree.specs.declared.op.Order.{Order}
use Rattle.ll_tree.specs.declared.op.Order.TheVariants.{Monotonic, Acquire, Release, AcqRel, SeqCst}
use Rattle.ll_tree.specs.declared.ty.TypeBase.{TypeBase, Void, Int as IntBase, Half, Float, Double, Named, Array', Vector', Struct', Packed'}
use Rattle.ll_tree.specs.Ops.{flag_changed}
use Rattle.ll_parser.specs.GrammarInsts.{alignment, align, begins_with_void, binary_word, flag, flag_word, order, order_word, predicate_word, rmw_word, scope, syncscope}
use Rattle.ll_parser.specs.GrammarTypes.{type_base}
use Rattle.ll_parser.specs.GrammarValues.{cast_word, if_word}
use Rattle.ll_parser.specs.Productions.{Production, ◌>>◌}
use Rattle.ll_parser.specs.Spellings.{between_quotes}
use Rattle.ll_one_module.proofs.Readers.{Ahead, Reader, Test, begins, done, bind, skip, first, Reads, Leads, Opens, Weaker, then', skipped, last, at, first-reads}
use Rattle.ll_one_module.proofs.Fronts.{either, either-left, either-right, if-none, is_one_of, outside, lead-first, lead-if-there, lead-kind, lead-mark, lead-nothing, lead-then, lead-token, lead-word, opens-first, opens-word}
use Rattle.ll_one_module.proofs.Lists.{optional, optional-reads}
use Rattle.ll_one_module.proofs.NamesFound.{read_number, number-reads}
use Rattle.ll_one_module.proofs.Sorts.{sort_at}
use Rattle.ll_one_module.proofs.Tests.{pointer_start, word_of, is_word_of}
use Rattle.ll_one_module.proofs.Ends.{behind_comma, look_up, opens-behind-comma}
use Rattle.ll_one_module.proofs.AttributesFound.{head_known, function_end}

pub data Sort : Type 0 where
  binaries : BinOp → Sort
  compares : Sort
  selects : Sort
  casts : CastKind → Sort
  phis : Sort
  allocas : Sort
  loads : Sort
  stores : Sort
  exchanges : Sort
  updates : Sort
  fences : Sort
  paths : Sort
  extracts : Sort
  inserts : Sort
  shuffles : Sort
  members : Sort
  calls : Sort
  returns : Sort
  branches : Sort
  switches : Sort
  ends : Sort

abbrev pub word_sorts : List (List ℕ × Sort)
word_sorts =
    (codes "add", binaries bin.Add) ∷ (codes "sub", binaries bin.Sub) ∷ (codes "mul", binaries bin.Mul) ∷ (codes "udiv", binaries bin.UDiv) ∷ (codes "sdiv", binaries bin.SDiv) ∷
    (codes "urem", binaries bin.URem) ∷ (codes "srem", binaries bin.SRem) ∷ (codes "shl", binaries bin.Shl) ∷ (codes "lshr", binaries bin.LShr) ∷ (codes "ashr", binaries bin.AShr) ∷
    (codes "and", binaries bin.And) ∷ (codes "or", binaries bin.Or) ∷ (codes "xor", binaries bin.Xor) ∷ (codes "icmp", compares) ∷ (codes "select", selects) ∷
    (codes "trunc", casts conversion.Trunc) ∷ (codes "zext", casts conversion.Zext) ∷ (codes "sext", casts conversion.Sext) ∷ (codes "ptrtoint", casts conversion.PtrToInt) ∷
    (codes "inttoptr", casts conversion.IntToPtr) ∷ (codes "bitcast", casts conversion.Bitcast) ∷ (codes "addrspacecast", casts conversion.AddrSpaceCast) ∷
    (codes "phi", phis) ∷ (codes "alloca", allocas) ∷ (codes "load", loads) ∷ (codes "store", stores) ∷ (codes "cmpxchg", exchanges) ∷ (codes "atomicrmw", updates) ∷ (codes "fence", fences) ∷
    (codes "getelementptr", paths) ∷ (codes "extractelement", extracts) ∷ (codes "insertelement", inserts) ∷ (codes "shufflevector", shuffles) ∷ (codes "extractvalue", members) ∷
    (codes "tail", calls) ∷ (codes "notail", calls) ∷ (codes "call", calls) ∷ (codes "ret", returns) ∷ (codes "br", branches) ∷ (codes "switch", switches) ∷ []

abbrev pub sort_of : TokenKind → List ℕ → Sort
sort_of kind text = look_up word_sorts ends text

abbrev pub here : List Lexeme → Sort
here = sort_at ends sort_of

-- words of tables
abbrev pub flags : List (List ℕ × FlagWord)
flags = (codes "nuw", Nuw) ∷ (codes "nsw", Nsw) ∷ (codes "exact", Exact) ∷ []

abbrev pub predicates : List (List ℕ × Pred)
predicates =
    (codes "eq", pred.Eq) ∷ (codes "ne", pred.Ne) ∷ (codes "ugt", pred.Ugt) ∷ (codes "uge", pred.Uge) ∷ (codes "ult", pred.Ult) ∷ (codes "ule", pred.Ule) ∷
    (codes "sgt", pred.Sgt) ∷ (codes "sge", pred.Sge) ∷ (codes "slt", pred.Slt) ∷ (codes "sle", pred.Sle) ∷ []

abbrev pub updates_of : List (List ℕ × RmwOp)
updates_of =
    (codes "xchg", rmw.Xchg) ∷ (codes "add", rmw.Add) ∷ (codes "sub", rmw.Sub) ∷ (codes "and", rmw.And) ∷ (codes "or", rmw.Or) ∷ (codes "xor", rmw.Xor) ∷
    (codes "max", rmw.Max) ∷ (codes "min", rmw.Min) ∷ (codes "umax", rmw.UMax) ∷ (codes "umin", rmw.UMin) ∷ []

abbrev pub orders : List (List ℕ × Order)
orders = (codes "monotonic", Monotonic) ∷ (codes "acquire", Acquire) ∷ (codes "release", Release) ∷ (codes "acq_rel", AcqRel) ∷ (codes "seq_cst", SeqCst) ∷ []

pub flag-known : (w : FlagWord) → look_up flags Nuw (flag_word w) ≡ w
flag-known Nuw = refl
flag-known Nsw = refl
flag-known Exact = refl

pub predicate-known : (p : Pred) → look_up predicates pred.Eq (predicate_word p) ≡ p
predicate-known pred.Eq = refl
predicate-known pred.Ne = refl
predicate-known pred.Ugt = refl
predicate-known pred.Uge = refl
predicate-known pred.Ult = refl
predicate-known pred.Ule = refl
predicate-known pred.Sgt = refl
predicate-known pred.Sge = refl
predicate-known pred.Slt = refl
predicate-known pred.Sle = refl

pub rmw-known : (k : RmwOp) → look_up updates_of rmw.Xchg (rmw_word k) ≡ k
rmw-known rmw.Xchg = refl
rmw-known rmw.Add = refl
rmw-known rmw.Sub = refl
rmw-known rmw.And = refl
rmw-known rmw.Or = refl
rmw-known rmw.Xor = refl
rmw-known rmw.Max = refl
rmw-known rmw.Min = refl
rmw-known rmw.UMax = refl
rmw-known rmw.UMin = refl

pub order-known : (o : Order) → look_up orders Monotonic (order_word o) ≡ o
order-known Monotonic = refl
order-known Acquire = refl
order-known Release = refl
order-known AcqRel = refl
order-known SeqCst = refl

abbrev pub flag_start : Test
flag_start = word_of (codes "nuw" ∷ codes "nsw" ∷ codes "exact" ∷ [])

pub flag-starts : (w : FlagWord) → flag_start Word (flag_word w) ≡ true
flag-starts Nuw = refl
flag-starts Nsw = refl
flag-starts Exact = refl

pub binary-shows : (k : BinOp) → sort_of Word (binary_word k) ≡ binaries k
binary-shows bin.Add = refl
binary-shows bin.Sub = refl
binary-shows bin.Mul = refl
binary-shows bin.UDiv = refl
binary-shows bin.SDiv = refl
binary-shows bin.URem = refl
binary-shows bin.SRem = refl
binary-shows bin.Shl = refl
binary-shows bin.LShr = refl
binary-shows bin.AShr = refl
binary-shows bin.And = refl
binary-shows bin.Or = refl
binary-shows bin.Xor = refl

pub cast-shows : (k : CastKind) → sort_of Word (cast_word k) ≡ casts k
cast-shows conversion.Trunc = refl
cast-shows conversion.Zext = refl
cast-shows conversion.Sext = refl
cast-shows conversion.PtrToInt = refl
cast-shows conversion.IntToPtr = refl
cast-shows conversion.Bitcast = refl
cast-shows conversion.AddrSpaceCast = refl

-- An instruction goes on behind a comma where no name of an attachment follows
abbrev pub not_attached : Test
not_attached MdName text = false
not_attached _ text = true

abbrev pub further : Ahead
further = behind_comma not_attached

-- what doesn't follow an instruction: what it goes on with, or what one of its parts does
abbrev pub trailing : Test
trailing = either pointer_start function_end

unfoldable pub op_end : Ahead
op_end tokens = if further tokens then true else begins trailing tokens

pub end-further : Weaker op_end further
unfolding op_end
end-further tokens e = (if-none (further tokens) _ e).0

pub end-trailing : Weaker op_end (begins trailing)
unfolding op_end
end-trailing tokens e = (if-none (further tokens) _ e).1

pub end-pointer : Weaker op_end (begins pointer_start)
end-pointer tokens e = either-left pointer_start function_end tokens (end-trailing tokens e)

pub end-function : Weaker op_end (begins function_end)
end-function tokens e = either-right pointer_start function_end tokens (end-trailing tokens e)

-- readers of parts
pub read_flag : Reader Flag
read_flag = first (λ l. record { word = look_up flags Nuw l.text; byte = l.byte })

pub flag-read : {u : Ahead} (f : Flag) → Reads u (flag f) read_flag (flag_changed (λ n. n) (λ byte. byte) f)
unfolding read_flag
flag-read f = first-reads _ _ _ (λ l k d. ap₂ (λ (w : FlagWord) (b : ℕ). let g : Flag = record { word = w; byte = b } in g) (ap (look_up flags Nuw) d.0 ∙ flag-known f.word) d.1)

pub read_order : Reader Order
read_order = first (λ l. look_up orders Monotonic l.text)

pub order-read : {u : Ahead} (o : Order) → Reads u (order o) read_order o
unfolding read_order
order-read o = first-reads _ _ _ (λ l k w. ap (look_up orders Monotonic) w ∙ order-known o)

unfoldable pub read_align : Reader ℕ
read_align = skip (skip read_number)

pub alignment-read : {u : Ahead} (bytes : ℕ) → Reads u (alignment bytes) read_align bytes
unfolding read_align
alignment-read bytes = skipped _ _ (skipped _ _ (number-reads bytes))

pub alignment-opens : (bytes : ℕ) → Opens (alignment bytes) further
alignment-opens bytes = opens-behind-comma not_attached (opens-first _ (opens-word (codes "align") not_attached refl))

pub align-read : {u : Ahead} → Weaker u further → (o : Option ℕ) → Reads u (align o) (optional further read_align) o
align-read weaker o = at (same o) (optional-reads (λ n. n) weaker alignment-opens alignment-read o)
  where
    same : (o : Option ℕ) → option_map (λ n. n) o ≡ o
    same None = refl
    same (Some n) = refl

pub align-leads : {u : Ahead} (test : Test) → Weaker u (begins test) → test Punct (44 ∷ []) ≡ false → (o : Option ℕ) → Leads u (align o) (begins test)
align-leads test weaker fails o = lead-if-there weaker (λ bytes. lead-first _ (lead-mark 44 test fails)) o

-- the text of a scope
pub read_scope : Reader (List ℕ)
read_scope = skip (skip (bind (first (λ l. between_quotes l.text)) (λ bytes. skip (done bytes))))

pub scope-read : {u : Ahead} (text : List ℕ) → Reads u (syncscope text) read_scope text
unfolding read_scope
scope-read text = skipped _ _ (skipped _ _ (then' _ (first-reads _ _ _ (λ l k d. d)) (last _ _)))

abbrev pub scope_start : Test
scope_start = word_of (codes "syncscope" ∷ [])

pub scopes-read : (o : Option (List ℕ)) → Reads (begins scope_start) (scope o) (optional (begins scope_start) read_scope) o
scopes-read o = at (same o) (optional-reads (λ n. n) (λ ts e. e) (λ text. opens-first _ (opens-word (codes "syncscope") scope_start refl)) scope-read o)
  where
    same : (o : Option (List ℕ)) → option_map (λ n. n) o ≡ o
    same None = refl
    same (Some n) = refl

pub order-no-scope : {u : Ahead} (o : Order) → Leads u (order o) (begins scope_start)
order-no-scope Monotonic = lead-word (codes "monotonic") _ refl
order-no-scope Acquire = lead-word (codes "acquire") _ refl
order-no-scope Release = lead-word (codes "release") _ refl
order-no-scope AcqRel = lead-word (codes "acq_rel") _ refl
order-no-scope SeqCst = lead-word (codes "seq_cst") _ refl

abbrev pub volatile_start : Test
volatile_start = word_of (codes "volatile" ∷ [])

abbrev pub atomic_start : Test
atomic_start = word_of (codes "atomic" ∷ [])

abbrev pub inbounds_start : Test
inbounds_start = word_of (codes "inbounds" ∷ [])

abbrev pub label_start : Test
label_start = word_of (codes "label" ∷ [])

abbrev pub tail_start : Test
tail_start = word_of (codes "tail" ∷ codes "notail" ∷ [])

abbrev pub convention_start : Test
convention_start = outside head_known (is_word_of (codes "spir_kernel" ∷ codes "spir_func" ∷ []))

abbrev pub void_start : Test
void_start Word text = is_one_of (codes "void" ∷ []) text
void_start _ text = false

pub volatile-no-atomic : {u : Ahead} (there : Bool) (q : Production) → Leads u q (begins atomic_start) → Leads u (if_word (codes "volatile") there >> q) (begins atomic_start)
volatile-no-atomic true q one = lead-first _ (lead-word (codes "volatile") _ refl)
volatile-no-atomic false q one = lead-then (lead-nothing (λ ts e. e)) one

-- a type but `void` and a value begin with another word
pub no-void : {u : Ahead} (names : List NameText) (base : TypeBase) → begins_with_void base ≡ false → Leads u (type_base names base) (begins void_start)
no-void names Void e = absurd (true≢false e)
no-void names (IntBase bits) e = lead-token Word _ void_start (λ l d. ap (is_one_of (codes "void" ∷ [])) d.1)
no-void names Half e = lead-word (codes "half") _ refl
no-void names Float e = lead-word (codes "float") _ refl
no-void names Double e = lead-word (codes "double") _ refl
no-void names (Named name) e = lead-kind LocalToken _ _ (λ text. refl)
no-void names (Array' count' shape part) e = lead-first _ (lead-mark 91 _ refl)
no-void names (Vector' lanes shape part) e = lead-first _ (lead-mark 60 _ refl)
no-void names (Struct' shape members') e = lead-first _ (lead-mark 123 _ refl)
no-void names (Packed' shape members') e = lead-first _ (lead-mark 60 _ refl)
