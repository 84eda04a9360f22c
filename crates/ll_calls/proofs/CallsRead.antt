-- Calls as they are read: what each exit of a reader answers.
use Rattle.std.proofs.Common.{◌≡◌, List, codes, refl, sym, subst, inl, inr}
use Rattle.ll_tokens.specs.Tokens.{Lexeme}
use Rattle.ll_tree.specs.declared.module.Attribute.{Attribute}
use Rattle.ll_tree.specs.declared.name.Name.{Name}
use Rattle.ll_tree.specs.declared.name.NameText.{NameText}
use Rattle.ll_tree.specs.declared.op.Op.{Op}
use Rattle.ll_tree.specs.declared.op.Op.TheVariants as op
use Rattle.ll_tree.specs.declared.ty.LlType.{LlType}
use Rattle.ll_tree.specs.declared.value.TypedValue.{TypedValue}
use Rattle.ll_parser.specs.GrammarValues.{global}
use Rattle.ll_parser.specs.NameReading.{ReadsWith}
use Rattle.ll_parser.specs.Productions.{◌>>◌, mark, word}
use Rattle.ll_parser.proofs.TableFacts.{extends_then}
use Rattle.ll_types.specs.TypeParts.{ty_here}
use Rattle.ll_types.proofs.MembersRead.{derived}
use Rattle.ll_types.proofs.TypesRead.{reads_as}
use Rattle.ll_operands.proofs.Readings.{reads_then}
use Rattle.ll_attributes.specs.AttributeParts.{attributes_here}
use Rattle.ll_attributes.specs.FunctionAttributes.{function_attributes_here}
use Rattle.ll_attributes.specs.Heads.{call_convention}
use Rattle.ll_attributes.specs.Lists.{maybe_here}
use Rattle.ll_attributes.proofs.AttributeFacts.{attributes_right}
use Rattle.ll_attributes.proofs.HeadFacts.{maybe_right}
use Rattle.ll_calls.specs.declared.callees.Callee.{Callee}
use Rattle.ll_calls.specs.declared.calls.Called.{Called}
use Rattle.ll_calls.specs.declared.openings.CallOpening.{CallOpening}
use Rattle.ll_calls.specs.declared.openings.CallOpening.TheVariants as opening
use Rattle.ll_calls.specs.CallOpenings.{opening_word}
use Rattle.ll_calls.specs.CallParts.{arguments, arguments_part, called, callee, callee_part}
use Rattle.ll_calls.specs.Calls.{behind, call_operation}
use Rattle.ll_calls.proofs.PartsDerived.{arguments_are_part, callee_is_part}

-- what is called
callee_made : (names : List NameText) (xs : List Attribute) (t : LlType) (name : Name) (tokens a b c rest : List Lexeme) → maybe_here call_convention tokens a → attributes_here names xs a b → ty_here names t b c → global names name c rest → callee names (record { ty = t; name = name }) tokens rest
unfolding ◌>>◌
callee_made names xs t name tokens a b c rest convention attributes type d =
    (a, maybe_right call_convention tokens a convention, (b, (xs, attributes_right names xs a b attributes), (c, type.0, d)))

pub callee_read : (old between later new : List NameText) (xs : List Attribute) (t : LlType) (name : Name) (tokens a b c rest : List Lexeme) → maybe_here call_convention tokens a → ReadsWith attributes_here old between xs a b → ReadsWith ty_here between later t b c → ReadsWith global later new name c rest → ReadsWith callee old new (record { ty = t; name = name }) tokens rest
callee_read old between later new xs t name tokens a b c rest convention x y z = record {
  extends = extends_then old between new x.extends (extends_then between later new y.extends z.extends);
  reads = λ longer e.
      let behind_type = extends_then later new longer z.extends e in
      callee_made longer xs t name tokens a b c rest convention (x.reads longer (extends_then between later longer y.extends behind_type)) (y.reads longer behind_type) (z.reads longer e);
}

pub callee_begins : (old new : List NameText) (c : Callee) (tokens rest : List Lexeme) → ReadsWith callee old new c tokens rest → callee_part.begins tokens rest
callee_begins old new c tokens rest r = callee_is_part new c tokens rest (derived callee old new c tokens rest r)

pub arguments_begin : (old new : List NameText) (xs : List TypedValue) (tokens rest : List Lexeme) → ReadsWith arguments old new xs tokens rest → arguments_part.begins tokens rest
arguments_begin old new xs tokens rest r = arguments_are_part new xs tokens rest (derived arguments old new xs tokens rest r)

-- what stands behind `call`
called_made : (names : List NameText) (c : Callee) (xs : List TypedValue) (tokens a b d rest : List Lexeme) → mark 40 a b → function_attributes_here d rest → callee names c tokens a → arguments names xs b d → called names (record { callee = c; arguments = xs }) tokens rest
unfolding ◌>>◌
called_made names c xs tokens a b d rest bracket attributes front list = (a, front, (b, bracket, (d, list, attributes)))

pub called_read : (old between new : List NameText) (c : Callee) (xs : List TypedValue) (tokens a b d rest : List Lexeme) → ReadsWith callee old between c tokens a → mark 40 a b → ReadsWith arguments between new xs b d → function_attributes_here d rest → ReadsWith called old new (record { callee = c; arguments = xs }) tokens rest
called_read old between new c xs tokens a b d rest x bracket y attributes =
    reads_then callee arguments called c xs _ old between new tokens a b d rest (λ names front list. called_made names c xs tokens a b d rest bracket attributes front list) x y

-- behind `tail` or `notail`
tail_made : (names : List NameText) (c : Called) (tokens middle rest : List Lexeme) → word (codes "call") tokens middle → called names c middle rest → behind opening.Tail names c tokens rest
unfolding ◌>>◌
tail_made names c tokens middle rest w d = (middle, w, d)

pub tail_read : (old new : List NameText) (c : Called) (tokens middle rest : List Lexeme) → word (codes "call") tokens middle → ReadsWith called old new c middle rest → ReadsWith (behind opening.Tail) old new c tokens rest
tail_read old new c tokens middle rest w r = reads_as called (behind opening.Tail) c c old new tokens middle rest rest (λ names d. tail_made names c tokens middle rest w d) r

-- a call
call_made : (names : List NameText) (key : CallOpening) (c : Called) (tokens middle rest : List Lexeme) → word (opening_word key) tokens middle → behind key names c middle rest → call_operation names (op.Call c.callee.ty c.callee.name c.arguments) tokens rest
unfolding ◌>>◌
call_made names opening.Tail c tokens middle rest w (m, w', d) = (middle, inl (inl w), (m, w', d))
call_made names opening.NoTail c tokens middle rest w (m, w', d) = (middle, inl (inr w), (m, w', d))
call_made names opening.Call c tokens middle rest w d = (tokens, inr refl, (middle, w, d))

pub call_read : (key : CallOpening) (old new : List NameText) (o : Op) (c : Called) (tokens middle rest : List Lexeme) → word (opening_word key) tokens middle → ReadsWith (behind key) old new c middle rest → o ≡ op.Call c.callee.ty c.callee.name c.arguments → ReadsWith call_operation old new o tokens rest
call_read key old new o c tokens middle rest w r is =
    subst (λ (x : Op). ReadsWith call_operation old new x tokens rest) (sym is)
    (reads_as (behind key) call_operation c (op.Call c.callee.ty c.callee.name c.arguments) old new tokens middle rest rest (λ names d. call_made names key c tokens middle rest w d) r)
