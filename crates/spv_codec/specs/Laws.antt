-- What follows of the definitions of framing.
use Rattle.std.specs.Prelude.{◌≡◌, ◌↔◌, List, [], ℕ, Option, Ok}
use Rattle.ports.specs.declared.faults.SpvFault.{SpvFault}
use Rattle.spv_words.specs.declared.words.Order.{Order}
use Rattle.spv_words.specs.Words.{words_bytes}
use Rattle.spv_layout.specs.declared.opcode.Opcode.{Opcode}
use Rattle.spv_layout.specs.Forms.{operands_of}
use Rattle.spv_codec.specs.declared.module.RawModule.{RawModule}
use Rattle.spv_codec.specs.Operands.{read_operands}
use Rattle.spv_codec.specs.Groups.{AreGroups}
use Rattle.spv_codec.specs.Framing.{IsSpirv, IsRight, IsFramingFault, module_words}

-- bytes spell one module at most
abbrev pub OneModule : Type 0
OneModule = (bytes : List ℕ) (first second : RawModule) → IsSpirv bytes first → IsSpirv bytes second → first ≡ second

-- bytes that spell a module break no rule of framing
abbrev pub ModuleOrFault : Type 0
ModuleOrFault = (bytes : List ℕ) (raw : RawModule) (fault : SpvFault) → IsSpirv bytes raw → IsFramingFault bytes fault → ⊥

-- bytes break one rule of framing first at most
abbrev pub OneFault : Type 0
OneFault = (bytes : List ℕ) (first second : SpvFault) → IsFramingFault bytes first → IsFramingFault bytes second → first ≡ second

-- the bytes of a right module, in either order, spell it
abbrev pub SpellsItself : Type 0
SpellsItself =
    (raw : RawModule) (order : Order) → IsRight raw
    → IsSpirv (words_bytes order (module_words raw)) (record raw { order = order })

-- operands of a form can be read exactly where their words are one group for each
abbrev pub OperandsAreGroups : Type 0
OperandsAreGroups =
    (opcode : Opcode) (width : Option ℕ) (words : List ℕ)
    → (read_operands width (operands_of opcode) words ≡ Ok []) ↔ AreGroups width (operands_of opcode) words
