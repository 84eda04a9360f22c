-- The productions of instructions (LLVM 14, Instruction Reference).
use Rattle.std.specs.Prelude.{◌≡◌, ℕ, Bool, true, false, List, [], ◌∷◌, codes, Option}
use Rattle.kern_lanes.specs.declared.binary.BinOp.{BinOp}
use Rattle.kern_lanes.specs.declared.binary.BinOp.TheVariants as bin
use Rattle.kern_lanes.specs.declared.comparison.Pred.{Pred}
use Rattle.kern_lanes.specs.declared.comparison.Pred.TheVariants as pred
use Rattle.kern_lanes.specs.declared.atomic.RmwOp.{RmwOp}
use Rattle.kern_lanes.specs.declared.atomic.RmwOp.TheVariants as rmw
use Rattle.ll_tokens.specs.declared.kinds.TokenKind.TheVariants.{Str, Word}
use Rattle.ll_tree.specs.declared.name.Name.{Name}
use Rattle.ll_tree.specs.declared.name.NameText.{NameText}
use Rattle.ll_tree.specs.declared.op.AllocaCount.{AllocaCount}
use Rattle.ll_tree.specs.declared.op.Flag.{Flag}
use Rattle.ll_tree.specs.declared.op.FlagWord.{FlagWord}
use Rattle.ll_tree.specs.declared.op.FlagWord.TheVariants.{Nuw, Nsw, Exact}
use Rattle.ll_tree.specs.declared.op.Op.{Op}
use Rattle.ll_tree.specs.declared.op.Op.TheVariants as op
use Rattle.ll_tree.specs.declared.op.Order.{Order}
use Rattle.ll_tree.specs.declared.op.Order.TheVariants.{Monotonic, Acquire, Release, AcqRel, SeqCst}
use Rattle.ll_tree.specs.declared.op.PhiEntry.{PhiEntry}
use Rattle.ll_tree.specs.declared.op.SwitchCase.{SwitchCase}
use Rattle.ll_tree.specs.declared.ty.LlType.{LlType}
use Rattle.ll_tree.specs.declared.ty.TypeBase.{TypeBase, Void}
use Rattle.ll_tree.specs.declared.value.TypedValue.{TypedValue}
use Rattle.ll_parser.specs.Productions.{Production, ◌>>◌, ◌or◌, maybe, token, word, mark, each, each_behind_comma, listed, if_there}
use Rattle.ll_parser.specs.Spellings.{between_quotes}
use Rattle.ll_parser.specs.GrammarAttributes.{any_attributes, any_function_attributes}
use Rattle.ll_parser.specs.GrammarTypes.{ty, number}
use Rattle.ll_parser.specs.GrammarValues.{local, global, value, typed, integer, if_word, cast_word, only}

abbrev pub binary_word : BinOp → List ℕ
binary_word bin.Add = codes "add"
binary_word bin.Sub = codes "sub"
binary_word bin.Mul = codes "mul"
binary_word bin.UDiv = codes "udiv"
binary_word bin.SDiv = codes "sdiv"
binary_word bin.URem = codes "urem"
binary_word bin.SRem = codes "srem"
binary_word bin.Shl = codes "shl"
binary_word bin.LShr = codes "lshr"
binary_word bin.AShr = codes "ashr"
binary_word bin.And = codes "and"
binary_word bin.Or = codes "or"
binary_word bin.Xor = codes "xor"

abbrev pub predicate_word : Pred → List ℕ
predicate_word pred.Eq = codes "eq"
predicate_word pred.Ne = codes "ne"
predicate_word pred.Ugt = codes "ugt"
predicate_word pred.Uge = codes "uge"
predicate_word pred.Ult = codes "ult"
predicate_word pred.Ule = codes "ule"
predicate_word pred.Sgt = codes "sgt"
predicate_word pred.Sge = codes "sge"
predicate_word pred.Slt = codes "slt"
predicate_word pred.Sle = codes "sle"

abbrev pub rmw_word : RmwOp → List ℕ
rmw_word rmw.Xchg = codes "xchg"
rmw_word rmw.Add = codes "add"
rmw_word rmw.Sub = codes "sub"
rmw_word rmw.And = codes "and"
rmw_word rmw.Or = codes "or"
rmw_word rmw.Xor = codes "xor"
rmw_word rmw.Max = codes "max"
rmw_word rmw.Min = codes "min"
rmw_word rmw.UMax = codes "umax"
rmw_word rmw.UMin = codes "umin"

abbrev pub order_word : Order → List ℕ
order_word Monotonic = codes "monotonic"
order_word Acquire = codes "acquire"
order_word Release = codes "release"
order_word AcqRel = codes "acq_rel"
order_word SeqCst = codes "seq_cst"

abbrev pub flag_word : FlagWord → List ℕ
flag_word Nuw = codes "nuw"
flag_word Nsw = codes "nsw"
flag_word Exact = codes "exact"

-- a flag, with the place of its word
abbrev pub flag : Flag → Production
flag f = token Word (λ lexeme. (lexeme.text ≡ flag_word f.word) × (lexeme.byte ≡ f.byte))

abbrev pub order : Order → Production
order o = word (order_word o)

-- `align` and a number, behind a comma, 44
abbrev pub alignment : ℕ → Production
alignment bytes = mark 44 >> word (codes "align") >> number bytes

abbrev pub align : Option ℕ → Production
align = if_there alignment

-- `syncscope` and a text between `(`, 40, and `)`, 41
abbrev pub syncscope : List ℕ → Production
syncscope text = word (codes "syncscope") >> mark 40 >> token Str (λ lexeme. between_quotes lexeme.text ≡ text) >> mark 41

abbrev pub scope : Option (List ℕ) → Production
scope = if_there syncscope

-- a type whose first word is `void`, which no returned value has
abbrev pub begins_with_void : TypeBase → Bool
begins_with_void Void = true
begins_with_void _ = false

module _ (names : List NameText) where
  abbrev label : Name → Production
  label name = word (codes "label") >> local names name

  -- `[`, 91, a value of the phi's type, a comma, the block, and `]`, 93
  abbrev pub entry : LlType → PhiEntry → Production
  entry t e = mark 91 >> value names e.value t >> mark 44 >> local names e.block >> mark 93

  abbrev pub entries : LlType → List PhiEntry → Production
  entries t [] tokens rest = ⊥
  entries t (e ∷ es) tokens rest = (entry t e >> each_behind_comma (entry t) es) tokens rest

  abbrev pub count : AllocaCount → Production
  count c = mark 44 >> ty names c.ty >> integer c.ty c.number

  abbrev pub switch_case : SwitchCase → Production
  switch_case c = typed names c.value >> mark 44 >> label c.target

  -- two operands, and three, with commas between them
  abbrev two : TypedValue → TypedValue → Production
  two a b = typed names a >> mark 44 >> typed names b

  abbrev three : TypedValue → TypedValue → TypedValue → Production
  three a b c = two a b >> mark 44 >> typed names c

  -- indexes, one at least
  abbrev indexes : List TypedValue → Production
  indexes [] tokens rest = ⊥
  indexes (i ∷ is) tokens rest = each_behind_comma (typed names) (i ∷ is) tokens rest

  -- `spir_kernel` or `spir_func`
  abbrev pub convention : Production
  convention = word (codes "spir_kernel") or word (codes "spir_func")

  -- a call's argument, whose attributes aren't kept
  abbrev pub argument : TypedValue → Production
  argument a = ty names a.ty >> any_attributes names >> value names a.value a.ty

  -- what an instruction does, 40 and 41 being `(` and `)`, 91 and 93 `[` and `]`
  abbrev pub operation : Op → Production
  operation (op.Binary kind flags t left right) =
      word (binary_word kind) >> each flag flags >> ty names t >> value names left t >> mark 44 >> value names right t
  operation (op.Compare p t left right) =
      word (codes "icmp") >> word (predicate_word p) >> ty names t >> value names left t >> mark 44 >> value names right t
  operation (op.Select condition accepted rejected) = word (codes "select") >> three condition accepted rejected
  operation (op.Cast kind operand to) = word (cast_word kind) >> typed names operand >> word (codes "to") >> ty names to
  operation (op.Phi t es) = word (codes "phi") >> ty names t >> entries t es
  operation (op.Alloca t c bytes) = word (codes "alloca") >> ty names t >> if_there count c >> align bytes
  operation (op.Load volatile t pointer bytes) =
      word (codes "load") >> if_word (codes "volatile") volatile >> ty names t >> mark 44 >> typed names pointer >> align bytes
  operation (op.Store volatile stored pointer bytes) =
      word (codes "store") >> if_word (codes "volatile") volatile >> two stored pointer >> align bytes
  operation (op.AtomicLoad t pointer sc o bytes) =
      word (codes "load") >> word (codes "atomic") >> ty names t >> mark 44 >> typed names pointer >> scope sc >> order o >> alignment bytes
  operation (op.AtomicStore stored pointer sc o bytes) =
      word (codes "store") >> word (codes "atomic") >> two stored pointer >> scope sc >> order o >> alignment bytes
  operation (op.CompareExchange pointer comparator new sc equal unequal bytes) =
      word (codes "cmpxchg") >> three pointer comparator new >> scope sc >> order equal >> order unequal >> align bytes
  operation (op.AtomicRmw kind pointer operand sc o bytes) =
      word (codes "atomicrmw") >> word (rmw_word kind) >> two pointer operand >> scope sc >> order o >> align bytes
  operation (op.Fence sc o) = word (codes "fence") >> scope sc >> order o
  operation (op.GetElementPtr inbounds t pointer is) =
      word (codes "getelementptr") >> if_word (codes "inbounds") inbounds >> ty names t >> mark 44 >> typed names pointer >> indexes is
  operation (op.ExtractElement vector index) = word (codes "extractelement") >> two vector index
  operation (op.InsertElement vector element index) = word (codes "insertelement") >> three vector element index
  operation (op.ShuffleVector left right mask) = word (codes "shufflevector") >> three left right mask
  operation (op.ExtractValue aggregate index) = word (codes "extractvalue") >> typed names aggregate >> mark 44 >> number index
  operation (op.Call t callee arguments) =
      maybe (word (codes "tail") or word (codes "notail")) >> word (codes "call") >> maybe convention >> any_attributes names >> ty names t >> global names callee >> mark 40 >> listed argument arguments >> mark 41 >> any_function_attributes
  operation op.ReturnVoid = word (codes "ret") >> word (codes "void")
  operation (op.Return given) = word (codes "ret") >> only (begins_with_void given.ty.base ≡ false) (typed names given)
  operation (op.Jump target) = word (codes "br") >> label target
  operation (op.Branch condition accepted rejected) =
      word (codes "br") >> typed names condition >> mark 44 >> label accepted >> mark 44 >> label rejected
  operation (op.Switch selector default cases) =
      word (codes "switch") >> typed names selector >> mark 44 >> label default >> mark 91 >> each switch_case cases >> mark 93
  operation op.Unreachable = word (codes "unreachable")
