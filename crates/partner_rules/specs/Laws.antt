-- Rules that the module of a kernel breaks nowhere.
use Rattle.std.specs.Prelude.{◌≡◌, ◌≢◌, ℕ, true, [], All, None}
use Rattle.kernel_tree.specs.declared.kernel.Kernel.{Kernel}
use Rattle.kernel_tree.specs.declared.names.Use.{Use}
use Rattle.kernel_tree.specs.Covered.{is_covered}
use Rattle.kernel_tree.specs.Names.{uses}
use Rattle.kernel_tree.specs.Numbered.{IsNumbered, number_used}
use Rattle.spv_module.specs.Sections.{flattened}
use Rattle.to_spirv.specs.Limits.{HasPlainName}
use Rattle.to_spirv.specs.Partner.{partner}
use Rattle.spv_names.specs.Functions.{function_places}
use Rattle.spv_names.specs.IdRules.{bound_places, later_places, twice_places, unknown_places}
use Rattle.spv_names.specs.NameRules.{names_fault}
use Rattle.spv_names.specs.RoleRules.{role_places}
use Rattle.spv_sections.specs.SectionOrder.{section_places}

abbrev pub FunctionsAreListed : Type 0
FunctionsAreListed = (kernel : Kernel) (words : ℕ) → function_places (flattened (partner kernel)).insts words ≡ []

abbrev pub SectionsAreInOrder : Type 0
SectionsAreInOrder = (kernel : Kernel) (words : ℕ) → section_places (flattened (partner kernel)).insts words ≡ []

abbrev pub IdsAreDefinedOnce : Type 0
IdsAreDefinedOnce = (kernel : Kernel) → IsNumbered kernel → twice_places (flattened (partner kernel)).insts ≡ []

abbrev pub IdsAreWithinBound : Type 0
IdsAreWithinBound =
    (kernel : Kernel) → IsNumbered kernel → HasPlainName kernel → bound_places (flattened (partner kernel)).insts (flattened (partner kernel)).bound ≡ []

abbrev pub IdsAreKnown : Type 0
IdsAreKnown = (kernel : Kernel) → IsNumbered kernel → HasPlainName kernel → unknown_places (flattened (partner kernel)).insts ≡ []

-- a name that is used is neither the kernel's own nor that of the block
abbrev pub IsValueOf : Kernel → Use → Type 0
IsValueOf kernel used = (number_used used ≢ 0) × (number_used used ≢ kernel.block.number)

-- instructions use values alone
abbrev pub UsesValues : Kernel → Type 0
UsesValues kernel = All (IsValueOf kernel) (uses kernel)

abbrev pub CoveredKernelsUseValues : Type 0
CoveredKernelsUseValues = (kernel : Kernel) → IsNumbered kernel → is_covered kernel ≡ true → UsesValues kernel

abbrev pub IdsHaveTheirRoles : Type 0
IdsHaveTheirRoles = (kernel : Kernel) → HasPlainName kernel → UsesValues kernel → role_places (flattened (partner kernel)).insts ≡ []

abbrev pub DeclarationsUseEarlierIds : Type 0
DeclarationsUseEarlierIds = (kernel : Kernel) → later_places (flattened (partner kernel)).insts ≡ []

-- the rules of section order, of ids and of the form of functions
abbrev pub NamesBreakNoRule : Type 0
NamesBreakNoRule = (kernel : Kernel) → IsNumbered kernel → HasPlainName kernel → UsesValues kernel → names_fault (flattened (partner kernel)) ≡ None
