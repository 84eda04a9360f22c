-- Instructions as they are written (LLVM 14, Instruction Reference).
use Rattle.std.specs.Prelude.{ℕ, List, codes, Option}
use Rattle.ll_tree.specs.declared.name.Name.{Name}
use Rattle.ll_tree.specs.declared.name.NameText.{NameText}
use Rattle.ll_tree.specs.declared.op.AllocaCount.{AllocaCount}
use Rattle.ll_tree.specs.declared.op.Flag.{Flag}
use Rattle.ll_tree.specs.declared.op.Op.{Op}
use Rattle.ll_tree.specs.declared.op.Op.TheVariants as op
use Rattle.ll_tree.specs.declared.op.Order.{Order}
use Rattle.ll_tree.specs.declared.op.PhiEntry.{PhiEntry}
use Rattle.ll_tree.specs.declared.op.SwitchCase.{SwitchCase}
use Rattle.ll_tree.specs.declared.ty.LlType.{LlType}
use Rattle.ll_tree.specs.declared.value.TypedValue.{TypedValue}
use Rattle.ll_tree.specs.declared.value.Value.{Value, Int}
use Rattle.ll_parser.specs.GrammarValues.{cast_word}
use Rattle.ll_parser.specs.GrammarInsts.{binary_word, flag_word, order_word, predicate_word, rmw_word}
use Rattle.ll_phrases.specs.Phrases.{Phrase, Mark, ◌&◌, blank, comma, a_word, a_number, each_phrase, each_behind, if_some, list_phrase}
use Rattle.ll_phrases.specs.Texts.{global_phrase, local_phrase, string_phrase}
use Rattle.ll_phrases.specs.TypePhrases.{type_phrase}
use Rattle.ll_phrases.specs.ValuePhrases.{typed_phrase, value_phrase, word_behind}

-- a flag behind a blank
abbrev pub flag_phrase : Flag → Phrase
flag_phrase f = blank & a_word (flag_word f.word)

-- an alignment behind a comma
abbrev pub align_phrase : ℕ → Phrase
align_phrase bytes = comma & a_word (codes "align") & blank & a_number bytes

-- `syncscope` behind a blank, and its text between `(`, 40, and `)`, 41
abbrev pub scope_phrase : List ℕ → Phrase
scope_phrase text = blank & a_word (codes "syncscope") & Mark 40 & string_phrase text & Mark 41

-- an order behind a blank
abbrev pub order_phrase : Order → Phrase
order_phrase o = blank & a_word (order_word o)

-- a scope, where one is written, and an order
abbrev pub atomic_phrase : Option (List ℕ) → Order → Phrase
atomic_phrase sc o = if_some scope_phrase sc & order_phrase o

module _ (names : List NameText) where
  abbrev pub target_phrase : Name → Phrase
  target_phrase name = a_word (codes "label") & blank & local_phrase names name

  -- `[`, 91, a value and its block, and `]`, 93
  abbrev pub entry_phrase : PhiEntry → Phrase
  entry_phrase e = Mark 91 & blank & value_phrase names e.value & comma & local_phrase names e.block & blank & Mark 93

  abbrev pub count_phrase : AllocaCount → Phrase
  count_phrase c = comma & type_phrase names c.ty & blank & value_phrase names (Int c.number)

  -- a case of a switch behind a blank
  abbrev pub case_phrase : SwitchCase → Phrase
  case_phrase c = blank & typed_phrase names c.value & comma & target_phrase c.target

  abbrev pub two_phrase : TypedValue → TypedValue → Phrase
  two_phrase a b = typed_phrase names a & comma & typed_phrase names b

  abbrev pub three_phrase : TypedValue → TypedValue → TypedValue → Phrase
  three_phrase a b c = two_phrase a b & comma & typed_phrase names c

  -- two operands of one type
  abbrev pub pair_phrase : LlType → Value → Value → Phrase
  pair_phrase t left right = type_phrase names t & blank & value_phrase names left & comma & value_phrase names right

  -- what an instruction does
  abbrev pub op_phrase : Op → Phrase
  op_phrase (op.Binary kind flags t left right) = a_word (binary_word kind) & each_phrase flag_phrase flags & blank & pair_phrase t left right
  op_phrase (op.Compare p t left right) = a_word (codes "icmp") & blank & a_word (predicate_word p) & blank & pair_phrase t left right
  op_phrase (op.Select condition accepted rejected) = a_word (codes "select") & blank & three_phrase condition accepted rejected
  op_phrase (op.Cast kind operand to) = a_word (cast_word kind) & blank & typed_phrase names operand & blank & a_word (codes "to") & blank & type_phrase names to
  op_phrase (op.Phi t es) = a_word (codes "phi") & blank & type_phrase names t & blank & list_phrase entry_phrase es
  op_phrase (op.Alloca t c bytes) = a_word (codes "alloca") & blank & type_phrase names t & if_some count_phrase c & if_some align_phrase bytes
  op_phrase (op.Load volatile t pointer bytes) =
      a_word (codes "load") & word_behind (codes "volatile") volatile & blank & type_phrase names t & comma & typed_phrase names pointer & if_some align_phrase bytes
  op_phrase (op.Store volatile stored pointer bytes) =
      a_word (codes "store") & word_behind (codes "volatile") volatile & blank & two_phrase stored pointer & if_some align_phrase bytes
  op_phrase (op.AtomicLoad t pointer sc o bytes) =
      a_word (codes "load") & blank & a_word (codes "atomic") & blank & type_phrase names t & comma & typed_phrase names pointer & atomic_phrase sc o & align_phrase bytes
  op_phrase (op.AtomicStore stored pointer sc o bytes) =
      a_word (codes "store") & blank & a_word (codes "atomic") & blank & two_phrase stored pointer & atomic_phrase sc o & align_phrase bytes
  op_phrase (op.CompareExchange pointer comparator new sc equal unequal bytes) =
      a_word (codes "cmpxchg") & blank & three_phrase pointer comparator new & atomic_phrase sc equal & order_phrase unequal & if_some align_phrase bytes
  op_phrase (op.AtomicRmw kind pointer operand sc o bytes) =
      a_word (codes "atomicrmw") & blank & a_word (rmw_word kind) & blank & two_phrase pointer operand & atomic_phrase sc o & if_some align_phrase bytes
  op_phrase (op.Fence sc o) = a_word (codes "fence") & atomic_phrase sc o
  op_phrase (op.GetElementPtr inbounds t pointer is) =
      a_word (codes "getelementptr") & word_behind (codes "inbounds") inbounds & blank & type_phrase names t & comma & typed_phrase names pointer & each_behind (typed_phrase names) is
  op_phrase (op.ExtractElement vector index) = a_word (codes "extractelement") & blank & two_phrase vector index
  op_phrase (op.InsertElement vector element index) = a_word (codes "insertelement") & blank & three_phrase vector element index
  op_phrase (op.ShuffleVector left right mask) = a_word (codes "shufflevector") & blank & three_phrase left right mask
  op_phrase (op.ExtractValue aggregate index) = a_word (codes "extractvalue") & blank & typed_phrase names aggregate & comma & a_number index
  op_phrase (op.Call t callee arguments) =
      a_word (codes "call") & blank & a_word (codes "spir_func") & blank & type_phrase names t & blank & global_phrase names callee & Mark 40 & list_phrase (typed_phrase names) arguments & Mark 41
  op_phrase op.ReturnVoid = a_word (codes "ret") & blank & a_word (codes "void")
  op_phrase (op.Return given) = a_word (codes "ret") & blank & typed_phrase names given
  op_phrase (op.Jump target) = a_word (codes "br") & blank & target_phrase target
  op_phrase (op.Branch condition accepted rejected) =
      a_word (codes "br") & blank & typed_phrase names condition & comma & target_phrase accepted & comma & target_phrase rejected
  op_phrase (op.Switch selector default cases) =
      a_word (codes "switch") & blank & typed_phrase names selector & comma & target_phrase default & blank & Mark 91 & each_phrase case_phrase cases & blank & Mark 93
  op_phrase op.Unreachable = a_word (codes "unreachable")
