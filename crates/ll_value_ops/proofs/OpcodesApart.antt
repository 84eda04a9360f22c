-- No two instructions begin with one word, and no type begins with the word of a flag.
use Rattle.std.proofs.Common.{◌≡◌, ℕ, List, [], ◌∷◌, Option, None, Some, if◌then◌else◌, refl, sym, ap, ◌∙◌, unwrap_or, arith}
use Rattle.std.specs.Str.{bytes_eq}
use Rattle.kern_lanes.specs.declared.binary.BinOp.TheVariants as bin
use Rattle.ll_tokens.specs.Tokens.{Lexeme}
use Rattle.ll_tree.specs.declared.name.NameText.{NameText}
use Rattle.ll_tree.specs.declared.op.CastKind.TheVariants.{Trunc, Zext, Sext, PtrToInt, IntToPtr, Bitcast, AddrSpaceCast}
use Rattle.ll_tree.specs.declared.op.FlagWord.{FlagWord}
use Rattle.ll_tree.specs.declared.op.FlagWord.TheVariants.{Nuw, Nsw, Exact}
use Rattle.ll_tree.specs.declared.ty.LlType.{LlType}
use Rattle.ll_parser.specs.GrammarInsts.{flag_word}
use Rattle.ll_parser.specs.GrammarTypes.{ty}
use Rattle.ll_parser.specs.Reading.{EndsNowhere}
use Rattle.ll_operands.proofs.TypeBegins.{BeginsNoType, begins_no_type, type_no_word}
use Rattle.ll_value_ops.specs.declared.opcodes.ValueOpcode.{ValueOpcode}
use Rattle.ll_value_ops.specs.declared.opcodes.ValueOpcode.TheVariants as opcode
use Rattle.ll_value_ops.specs.ValueOpcodes.{opcode_word, any_flag}

-- the first key of a list whose text this is
abbrev first_of : {K : Type 0} → (K → List ℕ) → List K → List ℕ → Option K
first_of text [] word = None
first_of text (key ∷ keys) word = if bytes_eq word (text key) then Some key else first_of text keys word

-- keys that are found by their texts have texts of their own
found_apart : {K : Type 0} (text : K → List ℕ) (keys : List K) → ((key : K) → first_of text keys (text key) ≡ Some key) → (j k : K) → text j ≡ text k → j ≡ k
found_apart text keys found j k same = ap (λ o. unwrap_or o j) (sym (found j) ∙ ap (first_of text keys) same ∙ found k)

abbrev opcodes : List ValueOpcode
opcodes =
    opcode.Binary bin.Add ∷ opcode.Binary bin.Sub ∷ opcode.Binary bin.Mul ∷ opcode.Binary bin.UDiv ∷ opcode.Binary bin.SDiv ∷
    opcode.Binary bin.URem ∷ opcode.Binary bin.SRem ∷ opcode.Binary bin.Shl ∷ opcode.Binary bin.LShr ∷ opcode.Binary bin.AShr ∷
    opcode.Binary bin.And ∷ opcode.Binary bin.Or ∷ opcode.Binary bin.Xor ∷ opcode.Compare ∷ opcode.Select ∷ opcode.Cast Trunc ∷
    opcode.Cast Zext ∷ opcode.Cast Sext ∷ opcode.Cast PtrToInt ∷ opcode.Cast IntToPtr ∷ opcode.Cast Bitcast ∷
    opcode.Cast AddrSpaceCast ∷ opcode.ExtractElement ∷ opcode.InsertElement ∷ opcode.ShuffleVector ∷ opcode.ExtractValue ∷ []

opcode_found : (key : ValueOpcode) → first_of opcode_word opcodes (opcode_word key) ≡ Some key
opcode_found (opcode.Binary bin.Add) = refl
opcode_found (opcode.Binary bin.Sub) = refl
opcode_found (opcode.Binary bin.Mul) = refl
opcode_found (opcode.Binary bin.UDiv) = refl
opcode_found (opcode.Binary bin.SDiv) = refl
opcode_found (opcode.Binary bin.URem) = refl
opcode_found (opcode.Binary bin.SRem) = refl
opcode_found (opcode.Binary bin.Shl) = refl
opcode_found (opcode.Binary bin.LShr) = refl
opcode_found (opcode.Binary bin.AShr) = refl
opcode_found (opcode.Binary bin.And) = refl
opcode_found (opcode.Binary bin.Or) = refl
opcode_found (opcode.Binary bin.Xor) = refl
opcode_found opcode.Compare = refl
opcode_found opcode.Select = refl
opcode_found (opcode.Cast Trunc) = refl
opcode_found (opcode.Cast Zext) = refl
opcode_found (opcode.Cast Sext) = refl
opcode_found (opcode.Cast PtrToInt) = refl
opcode_found (opcode.Cast IntToPtr) = refl
opcode_found (opcode.Cast Bitcast) = refl
opcode_found (opcode.Cast AddrSpaceCast) = refl
opcode_found opcode.ExtractElement = refl
opcode_found opcode.InsertElement = refl
opcode_found opcode.ShuffleVector = refl
opcode_found opcode.ExtractValue = refl

pub opcodes_apart : (j k : ValueOpcode) → opcode_word j ≡ opcode_word k → j ≡ k
opcodes_apart j k same = found_apart opcode_word opcodes opcode_found j k same

-- no type begins with the word of a flag
flag_apart : (flag : FlagWord) → BeginsNoType (flag_word flag)
flag_apart Nuw = begins_no_type _ (λ e. omega arith) (λ e. omega arith) (λ e. omega arith) (λ e. omega arith) (λ e. omega arith)
flag_apart Nsw = begins_no_type _ (λ e. omega arith) (λ e. omega arith) (λ e. omega arith) (λ e. omega arith) (λ e. omega arith)
flag_apart Exact = begins_no_type _ (λ e. omega arith) (λ e. omega arith) (λ e. omega arith) (λ e. omega arith) (λ e. omega arith)

pub type_no_flag : (names : List NameText) (t : LlType) (tokens rest : List Lexeme) → ty names t tokens rest → EndsNowhere any_flag tokens
type_no_flag names t tokens rest d b (flag, w) = type_no_word (flag_word flag) (flag_apart flag) names t tokens rest d b w
