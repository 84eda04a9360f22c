-- What instructions do, of all kinds: their words are apart, and their part is exact.
use Rattle.std.proofs.Common.{◌≡◌, ℕ, if◌then◌else◌, List, [], ◌∷◌, length, codes, refl, sym, ap, ◌∙◌, subst, inl, inr, arith, ◌⊎◌}
use Rattle.kern_lanes.specs.declared.binary.BinOp.{BinOp}
use Rattle.kern_lanes.specs.declared.binary.BinOp.TheVariants as bin
use Rattle.std.proofs.lemmas.List.{length-map}
use Rattle.ll_tokens.specs.declared.kinds.Token.{Token}
use Rattle.ll_tokens.specs.Tokens.{Lexeme, lexeme_of, lexemes_of}
use Rattle.ll_tree.specs.declared.name.NameText.{NameText}
use Rattle.ll_tree.specs.declared.op.CastKind.{CastKind}
use Rattle.ll_tree.specs.declared.op.CastKind.TheVariants.{Trunc, Zext, Sext, PtrToInt, IntToPtr, Bitcast, AddrSpaceCast}
use Rattle.ll_tree.specs.declared.op.Op.{Op}
use Rattle.ll_tree.specs.declared.op.Op.TheVariants as op
use Rattle.ll_parser.specs.declared.refusal.ReadError.{ReadError}
use Rattle.ll_parser.specs.declared.refusal.ReadError.TheVariants.{NoMemory, Refused}
use Rattle.ll_parser.specs.declared.refusal.Refusal.{Refusal}
use Rattle.ll_parser.specs.GrammarInsts.{binary_word, operation}
use Rattle.ll_parser.specs.GrammarValues.{cast_word}
use Rattle.ll_parser.specs.NameReading.{ReadsWith}
use Rattle.ll_parser.specs.Reading.{EndsNowhere}
use Rattle.ll_types.proofs.Tokens.{Shortens}
use Rattle.ll_operands.specs.Parts.{Begins, Part, Refuses, either, one_word, word_then}
use Rattle.ll_operands.specs.Whole.{EndsOperation}
use Rattle.ll_operands.proofs.PartFacts.{IsExact, exact_either, same_word}
use Rattle.ll_calls.specs.CallOpenings.{call_word, opening_word}
use Rattle.ll_calls.specs.Calls.{EndsCall, IsCall, behind_opening, call_operation, call_part}
use Rattle.ll_calls.specs.declared.openings.CallOpening.{CallOpening}
use Rattle.ll_calls.specs.declared.openings.CallOpening.TheVariants as opening
use Rattle.ll_calls.proofs.CallsWhole.{call_right, call_whole}
use Rattle.ll_calls.proofs.ExactCalls.{exact_call}
use Rattle.ll_calls.proofs.PartsDerived as calls
use Rattle.ll_flow_ops.specs.declared.opcodes.FlowOpcode.{FlowOpcode}
use Rattle.ll_flow_ops.specs.declared.opcodes.FlowOpcode.TheVariants as flow
use Rattle.ll_flow_ops.specs.FlowOpcodes.{flow_word}
use Rattle.ll_flow_ops.specs.FlowOpcodes as flow_codes
use Rattle.ll_flow_ops.specs.FlowOperations.{IsFlowOperation, flow_operation, flow_operation_part}
use Rattle.ll_flow_ops.specs.FlowOperations as flow_behind
use Rattle.ll_flow_ops.proofs.ExactOperations.{exact_flow_operation}
use Rattle.ll_flow_ops.proofs.PartsDerived as flow_parts
use Rattle.ll_memory_ops.specs.declared.opcodes.MemoryOpcode.{MemoryOpcode}
use Rattle.ll_memory_ops.specs.declared.opcodes.MemoryOpcode.TheVariants as memory
use Rattle.ll_memory_ops.specs.MemoryOpcodes.{memory_word}
use Rattle.ll_memory_ops.specs.MemoryOpcodes as memory_codes
use Rattle.ll_memory_ops.specs.MemoryOperations.{IsMemoryOperation, memory_operation, memory_operation_part}
use Rattle.ll_memory_ops.specs.MemoryOperations as memory_behind
use Rattle.ll_memory_ops.proofs.ExactOperations.{exact_memory_operation}
use Rattle.ll_memory_ops.proofs.PartsDerived as memory_parts
use Rattle.ll_value_ops.specs.declared.opcodes.ValueOpcode.{ValueOpcode}
use Rattle.ll_value_ops.specs.declared.opcodes.ValueOpcode.TheVariants as values
use Rattle.ll_value_ops.specs.ValueOpcodes.{value_word}
use Rattle.ll_value_ops.specs.ValueOpcodes as value_codes
use Rattle.ll_value_ops.specs.ValueOperations.{IsValueOperation, value_operation, value_operation_part}
use Rattle.ll_value_ops.specs.ValueOperations as value_behind
use Rattle.ll_value_ops.proofs.ExactOperations.{exact_value_operation}
use Rattle.ll_value_ops.proofs.PartsDerived as value_parts
use Rattle.ll_operands.proofs.WholeFacts.{whole_at_end}
use Rattle.ll_bodies.specs.BodyJoins.{no_part}
use Rattle.ll_bodies.specs.BodyWords.{is_word_of}
use Rattle.ll_bodies.proofs.ExactJoins.{exact_none}
use Rattle.ll_insts.specs.Operations.{operation_part, whole_operation}

-- the kind of an instruction by its word: 0 on values, 1 of control flow, 2 on memory, 3 a call
unfoldable flow_words : List (List ℕ)
flow_words = codes "phi" ∷ codes "ret" ∷ codes "br" ∷ codes "switch" ∷ codes "unreachable" ∷ []

unfoldable memory_words : List (List ℕ)
memory_words = codes "alloca" ∷ codes "load" ∷ codes "store" ∷ codes "fence" ∷ codes "cmpxchg" ∷ codes "atomicrmw" ∷ codes "getelementptr" ∷ []

unfoldable call_words : List (List ℕ)
call_words = codes "tail" ∷ codes "notail" ∷ codes "call" ∷ []

unfoldable kind_of : List ℕ → ℕ
kind_of text =
    if is_word_of flow_words text then 1
    else (if is_word_of memory_words text then 2
    else (if is_word_of call_words text then 3 else 0))

binary_kind : (kind : BinOp) → kind_of (binary_word kind) ≡ 0
unfolding kind_of flow_words memory_words call_words
binary_kind bin.Add = refl
binary_kind bin.Sub = refl
binary_kind bin.Mul = refl
binary_kind bin.UDiv = refl
binary_kind bin.SDiv = refl
binary_kind bin.URem = refl
binary_kind bin.SRem = refl
binary_kind bin.Shl = refl
binary_kind bin.LShr = refl
binary_kind bin.AShr = refl
binary_kind bin.And = refl
binary_kind bin.Or = refl
binary_kind bin.Xor = refl

cast_kind : (kind : CastKind) → kind_of (cast_word kind) ≡ 0
unfolding kind_of flow_words memory_words call_words
cast_kind Trunc = refl
cast_kind Zext = refl
cast_kind Sext = refl
cast_kind PtrToInt = refl
cast_kind IntToPtr = refl
cast_kind Bitcast = refl
cast_kind AddrSpaceCast = refl

value_kind : (key : ValueOpcode) → kind_of (value_codes.opcode_word key) ≡ 0
unfolding kind_of flow_words memory_words call_words
value_kind (values.Binary kind) = binary_kind kind
value_kind values.Compare = refl
value_kind values.Select = refl
value_kind (values.Cast kind) = cast_kind kind
value_kind values.ExtractElement = refl
value_kind values.InsertElement = refl
value_kind values.ShuffleVector = refl
value_kind values.ExtractValue = refl

flow_kind : (key : FlowOpcode) → kind_of (flow_codes.opcode_word key) ≡ 1
unfolding kind_of flow_words memory_words call_words
flow_kind flow.Phi = refl
flow_kind flow.Return = refl
flow_kind flow.Branch = refl
flow_kind flow.Switch = refl
flow_kind flow.Unreachable = refl

memory_kind : (key : MemoryOpcode) → kind_of (memory_codes.opcode_word key) ≡ 2
unfolding kind_of flow_words memory_words call_words
memory_kind memory.Alloca = refl
memory_kind memory.Load = refl
memory_kind memory.Store = refl
memory_kind memory.Fence = refl
memory_kind memory.CompareExchange = refl
memory_kind memory.AtomicRmw = refl
memory_kind memory.GetElementPtr = refl

call_kind : (key : CallOpening) → kind_of (opening_word key) ≡ 3
unfolding kind_of flow_words memory_words call_words
call_kind opening.Tail = refl
call_kind opening.NoTail = refl
call_kind opening.Call = refl

-- words of two kinds don't begin the same tokens
apart : {J K : Type 0} (p : J → List ℕ) (q : K → List ℕ) (m n : ℕ) → ((j : J) → kind_of (p j) ≡ m) → ((k : K) → kind_of (q k) ≡ n) → (m ≡ n → ⊥) → (tokens rest : List Lexeme) → (one_word p).begins tokens rest → EndsNowhere (one_word q).begins tokens
apart p q m n of_p of_q differ tokens rest (j, w) end (k, x) = differ (sym (of_p j) ∙ ap kind_of (same_word (p j) (q k) tokens rest end w x) ∙ of_q k)

-- a part of words begins with one
opens : {K : Type 0} (text : K → List ℕ) (next : K → Part) (tokens rest : List Lexeme) → (word_then text next).begins tokens rest → Begins (one_word text).begins tokens
opens text next tokens rest (key, middle, w, d) = (middle, (key, w))

stops_open : {K : Type 0} (text : K → List ℕ) (next : K → Part) (tokens : List Lexeme) (refusal : Refusal) → (word_then text next).stops tokens refusal → Begins (one_word text).begins tokens
stops_open text next tokens refusal (key, middle, w, s) = (middle, (key, w))

value_opens : (tokens rest : List Lexeme) → value_operation_part.begins tokens rest → Begins value_word tokens
value_opens tokens rest d = opens value_codes.opcode_word value_behind.behind_opcode tokens rest d

flow_opens : (tokens rest : List Lexeme) → flow_operation_part.begins tokens rest → Begins flow_word tokens
flow_opens tokens rest d = opens flow_codes.opcode_word flow_behind.behind_opcode tokens rest d

memory_opens : (tokens rest : List Lexeme) → memory_operation_part.begins tokens rest → Begins memory_word tokens
memory_opens tokens rest d = opens memory_codes.opcode_word memory_behind.behind_opcode tokens rest d

call_opens : (tokens rest : List Lexeme) → call_part.begins tokens rest → Begins call_word tokens
call_opens tokens rest d = opens opening_word behind_opening tokens rest d

abbrev calls_left : Part
calls_left = either call_word call_part no_part

abbrev memory_left : Part
memory_left = either memory_word memory_operation_part calls_left

abbrev flow_left : Part
flow_left = either flow_word flow_operation_part memory_left

pub exact_operation : IsExact operation_part
unfolding operation_part
exact_operation =
    exact_either value_word value_operation_part flow_left exact_value_operation
    (exact_either flow_word flow_operation_part memory_left exact_flow_operation
    (exact_either memory_word memory_operation_part calls_left exact_memory_operation
    (exact_either call_word call_part no_part exact_call exact_none call_opens) memory_opens) flow_opens) value_opens

-- what is read is of the part
pub operation_is_part : (names : List NameText) (o : Op) (tokens rest : List Lexeme) → whole_operation names o tokens rest → operation_part.begins tokens rest
unfolding operation_part whole_operation
operation_is_part names o tokens rest (inl d) = inl (value_parts.of_part names o tokens rest d)
operation_is_part names o tokens rest (inr (inl d)) =
    let p = flow_parts.of_part names o tokens rest d in
    let w = flow_opens tokens rest p in
    inr (apart flow_codes.opcode_word value_codes.opcode_word 1 0 flow_kind value_kind (λ e. omega arith) tokens w.0 w.1, inl p)
operation_is_part names o tokens rest (inr (inr (inl d))) =
    let p = memory_parts.of_part names o tokens rest d in
    let w = memory_opens tokens rest p in
    inr (
      apart memory_codes.opcode_word value_codes.opcode_word 2 0 memory_kind value_kind (λ e. omega arith) tokens w.0 w.1,
      inr (apart memory_codes.opcode_word flow_codes.opcode_word 2 1 memory_kind flow_kind (λ e. omega arith) tokens w.0 w.1, inl p),
    )
operation_is_part names o tokens rest (inr (inr (inr d))) =
    let p = calls.of_part names o tokens rest d in
    let w = call_opens tokens rest p in
    inr (
      apart opening_word value_codes.opcode_word 3 0 call_kind value_kind (λ e. omega arith) tokens w.0 w.1,
      inr (
        apart opening_word flow_codes.opcode_word 3 1 call_kind flow_kind (λ e. omega arith) tokens w.0 w.1,
        inr (apart opening_word memory_codes.opcode_word 3 2 call_kind memory_kind (λ e. omega arith) tokens w.0 w.1, inl p),
      ),
    )

pub part_shortens : Shortens operation_part.begins
unfolding operation_part
part_shortens tokens rest (inl d) = value_parts.part_shortens tokens rest d
part_shortens tokens rest (inr (_, inl d)) = flow_parts.part_shortens tokens rest d
part_shortens tokens rest (inr (_, inr (_, inl d))) = memory_parts.part_shortens tokens rest d
part_shortens tokens rest (inr (_, inr (_, inr (_, inl d)))) = calls.part_shortens tokens rest d
part_shortens tokens rest (inr (_, inr (_, inr (_, inr (_, d))))) = absurd d

-- what is read is of the grammar
pub operation_right : (names : List NameText) (o : Op) (tokens rest : List Lexeme) → whole_operation names o tokens rest → operation names o tokens rest
unfolding whole_operation
operation_right names o tokens rest (inl d) = d.1.0
operation_right names o tokens rest (inr (inl d)) = d.1.0
operation_right names o tokens rest (inr (inr (inl d))) = d.1.0
operation_right names o tokens rest (inr (inr (inr d))) = (call_right names o tokens rest d).1.0

-- each instruction is of a kind
kind_of_op : (o : Op) → IsValueOperation o ⊎ IsFlowOperation o ⊎ IsMemoryOperation o ⊎ IsCall o
kind_of_op (op.Binary kind flags t left right) = inl tt
kind_of_op (op.Compare p t left right) = inl tt
kind_of_op (op.Select condition accepted rejected) = inl tt
kind_of_op (op.Cast kind operand to) = inl tt
kind_of_op (op.ExtractElement vector index) = inl tt
kind_of_op (op.InsertElement vector element index) = inl tt
kind_of_op (op.ShuffleVector left right mask) = inl tt
kind_of_op (op.ExtractValue aggregate index) = inl tt
kind_of_op (op.Phi t entries) = inr (inl tt)
kind_of_op op.ReturnVoid = inr (inl tt)
kind_of_op (op.Return given) = inr (inl tt)
kind_of_op (op.Jump target) = inr (inl tt)
kind_of_op (op.Branch condition accepted rejected) = inr (inl tt)
kind_of_op (op.Switch selector default cases) = inr (inl tt)
kind_of_op op.Unreachable = inr (inl tt)
kind_of_op (op.Alloca t count align) = inr (inr (inl tt))
kind_of_op (op.Load volatile t pointer align) = inr (inr (inl tt))
kind_of_op (op.Store volatile stored pointer align) = inr (inr (inl tt))
kind_of_op (op.AtomicLoad t pointer scope order align) = inr (inr (inl tt))
kind_of_op (op.AtomicStore stored pointer scope order align) = inr (inr (inl tt))
kind_of_op (op.CompareExchange pointer comparator new scope equal unequal align) = inr (inr (inl tt))
kind_of_op (op.AtomicRmw kind pointer operand scope order align) = inr (inr (inl tt))
kind_of_op (op.Fence scope order) = inr (inr (inl tt))
kind_of_op (op.GetElementPtr inbounds t pointer indexes) = inr (inr (inl tt))
kind_of_op (op.Call t callee arguments) = inr (inr (inr tt))

-- what the grammar derives before an end is what is read
pub operation_whole : (names : List NameText) (o : Op) (tokens rest : List Lexeme) → operation names o tokens rest → EndsOperation rest → EndsCall rest → whole_operation names o tokens rest
unfolding whole_operation
operation_whole names o tokens rest d ends ends_call = by_kind (kind_of_op o)
  where
    by_kind : IsValueOperation o ⊎ IsFlowOperation o ⊎ IsMemoryOperation o ⊎ IsCall o → whole_operation names o tokens rest
    by_kind (inl is) = inl (is, (d, whole_at_end o rest ends))
    by_kind (inr (inl is)) = inr (inl (is, (d, whole_at_end o rest ends)))
    by_kind (inr (inr (inl is))) = inr (inr (inl (is, (d, whole_at_end o rest ends))))
    by_kind (inr (inr (inr is))) = inr (inr (inr (call_whole names o tokens rest is d ends_call)))

-- what a reader of one kind tells
value_told : (tokens : List Lexeme) (told : ReadError) → Refuses value_operation_part tokens told → Refuses operation_part tokens told
unfolding operation_part
value_told tokens NoMemory x = x
value_told tokens (Refused refusal) x = inl (stops_open value_codes.opcode_word value_behind.behind_opcode tokens refusal x, x)

pub value_refused : (tokens : List Lexeme) (error told : ReadError) → told ≡ error → Refuses value_operation_part tokens error → Refuses operation_part tokens told
value_refused tokens error told same x = subst (Refuses operation_part tokens) (sym same) (value_told tokens error x)

flow_told : (tokens : List Lexeme) (told : ReadError) → EndsNowhere value_word tokens → Refuses flow_operation_part tokens told → Refuses operation_part tokens told
unfolding operation_part
flow_told tokens NoMemory none x = x
flow_told tokens (Refused refusal) none x = inr (none, inl (stops_open flow_codes.opcode_word flow_behind.behind_opcode tokens refusal x, x))

pub flow_refused : (tokens : List Lexeme) (error told : ReadError) → told ≡ error → EndsNowhere value_word tokens → Refuses flow_operation_part tokens error → Refuses operation_part tokens told
flow_refused tokens error told same none x = subst (Refuses operation_part tokens) (sym same) (flow_told tokens error none x)

memory_told : (tokens : List Lexeme) (told : ReadError) → EndsNowhere value_word tokens → EndsNowhere flow_word tokens → Refuses memory_operation_part tokens told → Refuses operation_part tokens told
unfolding operation_part
memory_told tokens NoMemory none none' x = x
memory_told tokens (Refused refusal) none none' x = inr (none, inr (none', inl (stops_open memory_codes.opcode_word memory_behind.behind_opcode tokens refusal x, x)))

pub memory_refused : (tokens : List Lexeme) (error told : ReadError) → told ≡ error → EndsNowhere value_word tokens → EndsNowhere flow_word tokens → Refuses memory_operation_part tokens error → Refuses operation_part tokens told
memory_refused tokens error told same none none' x = subst (Refuses operation_part tokens) (sym same) (memory_told tokens error none none' x)

call_told : (tokens : List Lexeme) (told : ReadError) → EndsNowhere value_word tokens → EndsNowhere flow_word tokens → EndsNowhere memory_word tokens → Refuses call_part tokens told → Refuses operation_part tokens told
unfolding operation_part
call_told tokens NoMemory none none' none'' x = x
call_told tokens (Refused refusal) none none' none'' x = inr (none, inr (none', inr (none'', inl (stops_open opening_word behind_opening tokens refusal x, x))))

pub call_refused : (tokens : List Lexeme) (error told : ReadError) → told ≡ error → EndsNowhere value_word tokens → EndsNowhere flow_word tokens → EndsNowhere memory_word tokens → Refuses call_part tokens error → Refuses operation_part tokens told
call_refused tokens error told same none none' none'' x = subst (Refuses operation_part tokens) (sym same) (call_told tokens error none none' none'' x)

none_begins : (tokens : List Lexeme) (refusal : Refusal) → EndsNowhere value_word tokens → EndsNowhere flow_word tokens → EndsNowhere memory_word tokens → EndsNowhere call_word tokens → refusal ≡ record { rule = 3; left = length tokens } → operation_part.stops tokens refusal
unfolding operation_part
none_begins tokens refusal none none' none'' none''' place = inr (none, inr (none', inr (none'', inr (none''', place))))

-- what a reader of one kind reads
pub value_read : (old new : List NameText) (o : Op) (tokens rest : List Lexeme) → ReadsWith value_operation old new o tokens rest → ReadsWith whole_operation old new o tokens rest
unfolding whole_operation
value_read old new o tokens rest r = record { extends = r.extends; reads = λ longer e. inl (r.reads longer e) }

flow_whole : (old new : List NameText) (o : Op) (tokens rest : List Lexeme) → ReadsWith flow_operation old new o tokens rest → ReadsWith whole_operation old new o tokens rest
unfolding whole_operation
flow_whole old new o tokens rest r = record { extends = r.extends; reads = λ longer e. inr (inl (r.reads longer e)) }

pub flow_read : (old mid new : List NameText) (o : Op) (tokens rest : List Lexeme) → mid ≡ old → ReadsWith flow_operation mid new o tokens rest → ReadsWith whole_operation old new o tokens rest
flow_read old mid new o tokens rest kept r = flow_whole old new o tokens rest (subst (λ ns. ReadsWith flow_operation ns new o tokens rest) kept r)

memory_whole : (old new : List NameText) (o : Op) (tokens rest : List Lexeme) → ReadsWith memory_operation old new o tokens rest → ReadsWith whole_operation old new o tokens rest
unfolding whole_operation
memory_whole old new o tokens rest r = record { extends = r.extends; reads = λ longer e. inr (inr (inl (r.reads longer e))) }

pub memory_read : (old mid next new : List NameText) (o : Op) (tokens rest : List Lexeme) → mid ≡ old → next ≡ mid → ReadsWith memory_operation next new o tokens rest → ReadsWith whole_operation old new o tokens rest
memory_read old mid next new o tokens rest kept kept' r = memory_whole old new o tokens rest (subst (λ ns. ReadsWith memory_operation ns new o tokens rest) (kept' ∙ kept) r)

call_whole_read : (old new : List NameText) (o : Op) (tokens rest : List Lexeme) → ReadsWith call_operation old new o tokens rest → ReadsWith whole_operation old new o tokens rest
unfolding whole_operation
call_whole_read old new o tokens rest r = record { extends = r.extends; reads = λ longer e. inr (inr (inr (r.reads longer e))) }

pub call_read : (old mid next last new : List NameText) (o : Op) (tokens rest : List Lexeme) → mid ≡ old → next ≡ mid → last ≡ next → ReadsWith call_operation last new o tokens rest → ReadsWith whole_operation old new o tokens rest
call_read old mid next last new o tokens rest kept kept' kept'' r = call_whole_read old new o tokens rest (subst (λ ns. ReadsWith call_operation ns new o tokens rest) (kept'' ∙ kept' ∙ kept) r)

-- no word of any kind begins the tokens
pub none_left : (tokens : List Token) (refusal : Refusal) → EndsNowhere value_word (lexemes_of tokens) → EndsNowhere flow_word (lexemes_of tokens) → EndsNowhere memory_word (lexemes_of tokens) → EndsNowhere call_word (lexemes_of tokens) → refusal ≡ record { rule = 3; left = length tokens } → operation_part.stops (lexemes_of tokens) refusal
none_left tokens refusal none none' none'' none''' place =
    none_begins (lexemes_of tokens) refusal none none' none'' none''' (subst (λ (n : ℕ). refusal ≡ record { rule = 3; left = n }) (sym (length-map tokens lexeme_of)) place)
