-- Instructions as they are read, each with the next number before it and behind it (LLVM 14, Identifiers; Metadata).
use Rattle.std.specs.Prelude.{◌≡◌, ℕ, List, [], ◌∷◌, ◌++◌}
use Rattle.ll_tokens.specs.Tokens.{Lexeme}
use Rattle.ll_tree.specs.declared.inst.Inst.{Inst}
use Rattle.ll_tree.specs.declared.name.NameText.{NameText}
use Rattle.ll_tree.specs.declared.op.Op.{Op}
use Rattle.ll_parser.specs.GrammarFunctions.{given, naming, next_after}
use Rattle.ll_parser.specs.Productions.{Production, ◌>>◌}
use Rattle.ll_attributes.specs.Attachments.{skipped_attachments}
use Rattle.ll_operands.specs.Parts.{Begins}
use Rattle.ll_heads.specs.Params.{first_place}
use Rattle.ll_bodies.specs.BodyJoins.{threaded, unless_begins}
use Rattle.ll_bodies.specs.BodyWords.{terminator_word, unnamed_word}
use Rattle.ll_insts.specs.Operations.{whole_operation}

-- an instruction with all that belongs to it, at the place of its first token
unfoldable pub inst_here : ℕ → ℕ → List NameText → Inst → Production
inst_here next end names i tokens rest =
    (i.byte ≡ first_place tokens) × (end ≡ next_after names (given names i.defines) next) ×
    (naming names next i.byte i.op i.defines >> whole_operation names i.op >> skipped_attachments) tokens rest

-- what an instruction does that is given a name
abbrev pub named_operation : List NameText → Op → Production
named_operation names o = unless_begins unnamed_word (whole_operation names o)

-- one that doesn't begin with the word of a terminator
abbrev pub plain_inst : ℕ → ℕ → List NameText → Inst → Production
plain_inst next end names i = unless_begins terminator_word (inst_here next end names i)

-- instructions up to the one that ends their block
pub record InstsBefore (next end : ℕ) (names : List NameText) (insts : List Inst) (tokens rest : List Lexeme) : Type 0 where
  pub before : List Inst
  pub last : Inst
  pub between : ℕ
  pub middle : List Lexeme
  pub all : insts ≡ before ++ last ∷ []
  pub plain : threaded plain_inst next between names before tokens middle
  pub ends : Begins terminator_word middle
  pub terminator : inst_here between end names last middle rest

abbrev pub insts_here : ℕ → ℕ → List NameText → List Inst → Production
insts_here next end names insts tokens rest = InstsBefore next end names insts tokens rest
