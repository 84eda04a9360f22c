-- The productions of blocks and functions, and the numbers of what has no name (LLVM 14, Functions; Identifiers).
use Rattle.std.specs.Prelude.{◌≡◌, ℕ, ◌+◌, ◌-◌, Bool, true, false, if◌then◌else◌, IsTrue, List, [], ◌∷◌, ◌++◌, take, length, Option, None, Some, slice_get}
use Rattle.inst_walk.specs.declared.body.Block.{Block}
use Rattle.ll_tokens.specs.declared.kinds.TokenKind.TheVariants.{Label}
use Rattle.ll_tokens.specs.Tokens.{Lexeme}
use Rattle.ll_tree.specs.declared.inst.Inst.{Inst}
use Rattle.ll_tree.specs.declared.name.Name.{Name}
use Rattle.ll_tree.specs.declared.name.NameKind.TheVariants.{Local as LocalName}
use Rattle.ll_tree.specs.declared.name.NameText.{NameText}
use Rattle.ll_tree.specs.declared.name.Spelling.TheVariants.{Number, Text}
use Rattle.ll_tree.specs.declared.op.Op.{Op}
use Rattle.ll_tree.specs.declared.op.Op.TheVariants as op
use Rattle.ll_tree.specs.declared.ty.TypeBase.{TypeBase, Void}
use Rattle.ll_parser.specs.Productions.{Production, nothing, ◌>>◌, ◌or◌, token, mark}
use Rattle.ll_parser.specs.Spellings.{Spells}
use Rattle.ll_parser.specs.GrammarAttributes.{any_attachments}
use Rattle.ll_parser.specs.GrammarInsts.{operation}
use Rattle.ll_parser.specs.GrammarValues.{local, only}

-- whether an instruction ends its block
abbrev pub is_terminator : Op → Bool
is_terminator op.ReturnVoid = true
is_terminator (op.Return given) = true
is_terminator (op.Jump target) = true
is_terminator (op.Branch condition accepted rejected) = true
is_terminator (op.Switch selector default cases) = true
is_terminator op.Unreachable = true
is_terminator _ = false

-- whether a type is `void`
abbrev pub is_void_base : TypeBase → List ℕ → Bool
is_void_base Void [] = true
is_void_base _ _ = false

-- whether an instruction may be given a name, and whether it has a value, which has one
abbrev pub may_have_name : Op → Bool
may_have_name (op.Store volatile stored pointer bytes) = false
may_have_name (op.AtomicStore stored pointer sc o bytes) = false
may_have_name (op.Fence sc o) = false
may_have_name other = if is_terminator other then false else true

abbrev pub has_value : Op → Bool
has_value (op.Call t callee arguments) = if is_void_base t.base t.pointers then false else true
has_value other = may_have_name other

module _ (names : List NameText) where
  -- the name is the number, as one that is left out
  abbrev pub IsNumbered : ℕ → ℕ → Type 0
  IsNumbered number next = slice_get names number ≡ Some (record { kind = LocalName; spelling = Number next })

  -- the next number behind a name, given the one before it
  abbrev pub next_behind : Option NameText → ℕ → ℕ
  next_behind None next = next
  next_behind (Some entry) next = elim entry.spelling [ Number number ↦ next + 1 | Text bytes ↦ next ]

  abbrev pub next_after : List ℕ → ℕ → ℕ
  next_after [] next = next
  next_after (number ∷ numbers) next = next_after numbers (next_behind (slice_get names number) next)

  -- the name that an instruction is given, 61 being `=`, or the next number where it has a value, or none
  abbrev pub naming : ℕ → ℕ → Op → Option Name → Production
  naming next byte o (Some name) =
      only (IsTrue (may_have_name o)) (local names name >> mark 61)
      or only (IsTrue (has_value o) × IsNumbered name.number next × (name.byte ≡ byte)) nothing
  naming next byte o None = only (has_value o ≡ false) nothing

  -- the place of an instruction is that of its first token
  abbrev pub begins_at : ℕ → List Lexeme → Type 0
  begins_at byte [] = ⊥
  begins_at byte (lexeme ∷ lexemes) = lexeme.byte ≡ byte

  abbrev pub inst : ℕ → Inst → Production
  inst next i tokens rest =
      begins_at i.byte tokens × (naming next i.byte i.op i.defines >> operation names i.op >> any_attachments) tokens rest

  -- the numbers of the names that an instruction is given
  abbrev pub given : Option Name → List ℕ
  given None = []
  given (Some name) = name.number ∷ []

  -- instructions, the last of which, and no other, ends the block
  abbrev pub insts : ℕ → List Inst → Production
  insts next [] tokens rest = ⊥
  insts next (i ∷ []) tokens rest = IsTrue (is_terminator i.op) × inst next i tokens rest
  insts next (i ∷ j ∷ is) tokens rest =
      (is_terminator i.op ≡ false) × (inst next i >> insts (next_after (given i.defines) next) (j ∷ is)) tokens rest

  -- the label of a block, less its `:`, or the next number; and its place, which is that of the block's first
  -- token
  abbrev pub label : ℕ → ℕ → ℕ → Production
  label next number byte tokens rest =
      begins_at byte tokens × ((token Label (λ lexeme. Spells names LocalName (take (length lexeme.text - 1) lexeme.text) number) or only (IsNumbered number next) nothing) tokens rest)

  -- the numbers of the names that instructions are given, in order
  abbrev pub all_given : List Inst → List ℕ
  all_given [] = []
  all_given (i ∷ is) = given i.defines ++ all_given is

  -- the numbers of a block's name and of those that its instructions are given
  abbrev pub block_names : Block Inst ℕ → List ℕ
  block_names block = block.name ∷ all_given block.insts

  -- blocks, with the places of their labels
  abbrev pub blocks : ℕ → List (Block Inst ℕ) → List ℕ → Production
  blocks next [] [] tokens rest = nothing tokens rest
  blocks next [] (byte ∷ bytes) tokens rest = ⊥
  blocks next (block ∷ more) [] tokens rest = ⊥
  blocks next (block ∷ more) (byte ∷ bytes) tokens rest =
      (label next block.name byte >> insts (next_after (block.name ∷ []) next) block.insts >> blocks (next_after (block_names block) next) more bytes) tokens rest
