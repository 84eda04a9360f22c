-- What is told of an input that is refused.
use Rattle.std.specs.Prelude.{ℕ, List, [], ◌∷◌, ◌++◌, codes, decimal}
use Rattle.kt_driver.specs.declared.refusals.Fault.{Fault}
use Rattle.kt_driver.specs.declared.refusals.Fault.TheVariants.{Text, Binary}
use Rattle.kt_driver.specs.declared.refusals.Refusal.{Refusal}
use Rattle.kt_driver.specs.declared.refusals.Refusal.TheVariants.{TooLong, UndefinedName, Outside, Unreadable, Misframed, Invalid}
use Rattle.kt_driver.specs.declared.request.Format.{Format}
use Rattle.kt_driver.specs.declared.request.Format.TheVariants.{Llvm, Spirv}

-- an input that is too long is refused at its first byte or word beyond the limit
abbrev pub too_long_fault : Format → Fault
too_long_fault Llvm = Text (record { rule = 15; byte = 16777216 })
too_long_fault Spirv = Binary (record { rule = 15; word = 4194304 })

-- an input outside the covered subset is refused at its first byte or word
abbrev pub outside_fault : Format → Fault
outside_fault Llvm = Text (record { rule = 90; byte = 0 })
outside_fault Spirv = Binary (record { rule = 90; word = 0 })

-- the rule and the place of a refusal
abbrev pub fault_of : Refusal → Fault
fault_of (TooLong format) = too_long_fault format
fault_of (UndefinedName byte) = Text (record { rule = 20; byte = byte })
fault_of (Outside format) = outside_fault format
fault_of (Unreadable fault) = Text fault
fault_of (Misframed fault) = Binary fault
fault_of (Invalid fault) = Binary fault

-- the line that tells a fault, with its line feed
abbrev pub fault_line : Fault → List ℕ
fault_line (Text fault) =
    codes "refused: rule L" ++ (decimal fault.rule ++ (codes " at byte " ++ (decimal fault.byte ++ 10 ∷ [])))
fault_line (Binary fault) =
    codes "refused: rule S" ++ (decimal fault.rule ++ (codes " at word " ++ (decimal fault.word ++ 10 ∷ [])))

abbrev pub refusal_line : Refusal → List ℕ
refusal_line refusal = fault_line (fault_of refusal)
