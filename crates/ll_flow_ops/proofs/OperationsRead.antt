-- Instructions of control flow as they are read: what each exit of a reader answers.
use Rattle.std.proofs.Common.{◌≡◌, List, codes, sym, subst, inl, inr}
use Rattle.ll_tokens.specs.Tokens.{Lexeme}
use Rattle.ll_tree.specs.declared.name.Name.{Name}
use Rattle.ll_tree.specs.declared.name.NameText.{NameText}
use Rattle.ll_tree.specs.declared.op.Op.{Op}
use Rattle.ll_tree.specs.declared.op.Op.TheVariants as op
use Rattle.ll_tree.specs.declared.value.TypedValue.{TypedValue}
use Rattle.ll_parser.specs.declared.refusal.ReadError.{ReadError}
use Rattle.ll_parser.specs.declared.refusal.ReadError.TheVariants.{NoMemory, Refused}
use Rattle.ll_parser.specs.GrammarValues.{typed}
use Rattle.ll_parser.specs.NameReading.{ReadsWith}
use Rattle.ll_parser.specs.Productions.{Production, ◌>>◌, mark, word}
use Rattle.ll_parser.specs.Reading.{EndsNowhere}
use Rattle.ll_parser.proofs.TableFacts.{extends_same}
use Rattle.ll_types.proofs.TypesRead.{reads_as}
use Rattle.ll_operands.specs.Operands.{label}
use Rattle.ll_operands.specs.Parts.{Begins, Part, Refuses, either}
use Rattle.ll_operands.proofs.Readings.{reads_then}
use Rattle.ll_flow_ops.specs.declared.opcodes.FlowOpcode.{FlowOpcode}
use Rattle.ll_flow_ops.specs.declared.opcodes.FlowOpcode.TheVariants as opcode
use Rattle.ll_flow_ops.specs.declared.targets.Target.{Target}
use Rattle.ll_flow_ops.specs.FlowOpcodes.{opcode_word}
use Rattle.ll_flow_ops.specs.FlowOperations.{behind, flow_operation}
use Rattle.ll_flow_ops.specs.FlowParts.{target}
use Rattle.ll_flow_ops.proofs.ReturnTypes.{typed_not_void}

pub operation_read : (key : FlowOpcode) (old new : List NameText) (o : Op) (tokens middle rest : List Lexeme) → word (opcode_word key) tokens middle → ReadsWith (behind key) old new o middle rest → ReadsWith flow_operation old new o tokens rest
operation_read key old new o tokens middle rest w r = reads_as (behind key) flow_operation o o old new tokens middle rest rest (λ names d. d tokens w) r

-- one part is refused where the opening stands, and the other where it doesn't
pub either_refused : (opening : Production) (p q : Part) (tokens : List Lexeme) (told : ReadError) → Begins opening tokens → Refuses p tokens told → Refuses (either opening p q) tokens told
either_refused opening p q tokens NoMemory there x = x
either_refused opening p q tokens (Refused refusal) there x = inl (there, x)

pub other_refused : (opening : Production) (p q : Part) (tokens : List Lexeme) (told : ReadError) → EndsNowhere opening tokens → Refuses q tokens told → Refuses (either opening p q) tokens told
other_refused opening p q tokens NoMemory nowhere x = x
other_refused opening p q tokens (Refused refusal) nowhere x = inr (nowhere, x)

-- unreachable
pub unreachable_read : (key : FlowOpcode) (names : List NameText) (tokens : List Lexeme) → key ≡ opcode.Unreachable → ReadsWith (behind key) names names op.Unreachable tokens tokens
unreachable_read key names tokens is = subst (λ k. ReadsWith (behind k) names names op.Unreachable tokens tokens) (sym is) (record {
  extends = extends_same names;
  reads = λ longer e before w. (tt, (w, tt));
})

-- returns
void_made : (names : List NameText) (tokens rest : List Lexeme) → word (codes "void") tokens rest → behind opcode.Return names op.ReturnVoid tokens rest
unfolding ◌>>◌
void_made names tokens rest v = λ before w. (tt, ((tokens, w, v), tt))

pub void_read : (names : List NameText) (tokens rest : List Lexeme) → word (codes "void") tokens rest → ReadsWith (behind opcode.Return) names names op.ReturnVoid tokens rest
void_read names tokens rest v = record { extends = extends_same names; reads = λ longer e. void_made longer tokens rest v }

return_made : (names : List NameText) (v : TypedValue) (tokens rest : List Lexeme) → EndsNowhere (word (codes "void")) tokens → typed names v tokens rest → behind opcode.Return names (op.Return v) tokens rest
unfolding ◌>>◌
return_made names v tokens rest nowhere d = λ before w. (tt, ((tokens, w, (typed_not_void names v tokens rest nowhere d, d)), tt))

pub return_read : (v : TypedValue) (old new : List NameText) (tokens rest : List Lexeme) → EndsNowhere (word (codes "void")) tokens → ReadsWith typed old new v tokens rest → ReadsWith (behind opcode.Return) old new (op.Return v) tokens rest
return_read v old new tokens rest nowhere r =
    reads_as typed (behind opcode.Return) v (op.Return v) old new tokens tokens rest rest (λ names d. return_made names v tokens rest nowhere d) r

-- branches
jump_made : (names : List NameText) (name : Name) (tokens rest : List Lexeme) → label names name tokens rest → behind opcode.Branch names (op.Jump name) tokens rest
unfolding ◌>>◌
jump_made names name tokens rest l = λ before w. (tt, ((tokens, w, l), tt))

pub jump_read : (name : Name) (old new : List NameText) (tokens rest : List Lexeme) → ReadsWith label old new name tokens rest → ReadsWith (behind opcode.Branch) old new (op.Jump name) tokens rest
jump_read name old new tokens rest r =
    reads_as label (behind opcode.Branch) name (op.Jump name) old new tokens tokens rest rest (λ names d. jump_made names name tokens rest d) r

branch_made : (names : List NameText) (t : Target) (name : Name) (tokens middle inside rest : List Lexeme) → mark 44 middle inside → target names t tokens middle → label names name inside rest → behind opcode.Branch names (op.Branch t.value t.block name) tokens rest
unfolding ◌>>◌
branch_made names t name tokens middle inside rest comma (a, d, (b, comma', l)) l' = λ before w. (tt, ((tokens, w, (a, d, (b, comma', (middle, l, (inside, comma, l'))))), tt))

pub branch_read : (t : Target) (name : Name) (made : Op) (old between new : List NameText) (tokens middle inside rest : List Lexeme) → made ≡ op.Branch t.value t.block name → ReadsWith target old between t tokens middle → mark 44 middle inside → ReadsWith label between new name inside rest → ReadsWith (behind opcode.Branch) old new made tokens rest
branch_read t name made old between new tokens middle inside rest is r comma s =
    subst (λ x. ReadsWith (behind opcode.Branch) old new x tokens rest) (sym is)
    (reads_then target label (behind opcode.Branch) t name (op.Branch t.value t.block name) old between new tokens middle inside rest rest (λ names d l. branch_made names t name tokens middle inside rest comma d l) r s)
