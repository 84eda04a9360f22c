-- No two instructions begin with one word.
use Rattle.std.proofs.Common.{◌≡◌, ℕ, List, [], ◌∷◌, Option, None, Some, if◌then◌else◌, refl, sym, ap, ◌∙◌, unwrap_or}
use Rattle.std.specs.Str.{bytes_eq}
use Rattle.ll_flow_ops.specs.declared.opcodes.FlowOpcode.{FlowOpcode}
use Rattle.ll_flow_ops.specs.declared.opcodes.FlowOpcode.TheVariants as opcode
use Rattle.ll_flow_ops.specs.FlowOpcodes.{opcode_word}

-- the first of some instructions that begins with this word
abbrev first_of : List FlowOpcode → List ℕ → Option FlowOpcode
first_of [] word = None
first_of (key ∷ keys) word = if bytes_eq word (opcode_word key) then Some key else first_of keys word

abbrev opcodes : List FlowOpcode
opcodes = opcode.Phi ∷ opcode.Return ∷ opcode.Branch ∷ opcode.Switch ∷ opcode.Unreachable ∷ []

found : (key : FlowOpcode) → first_of opcodes (opcode_word key) ≡ Some key
found opcode.Phi = refl
found opcode.Return = refl
found opcode.Branch = refl
found opcode.Switch = refl
found opcode.Unreachable = refl

pub opcodes_apart : (j k : FlowOpcode) → opcode_word j ≡ opcode_word k → j ≡ k
opcodes_apart j k same = ap (λ o. unwrap_or o j) (sym (found j) ∙ ap (first_of opcodes) same ∙ found k)
