-- Items are read back from their instructions.
use Rattle.std.proofs.Common.{◌≡◌, ℕ, Option, Some, None, refl}
use Rattle.kern_types.specs.declared.class.Class.{Class}
use Rattle.kern_types.specs.declared.class.Class.TheVariants as class
use Rattle.spv_module.specs.declared.module.Constant.{Constant}
use Rattle.spv_module.specs.declared.module.ConstantValue.{ConstantValue}
use Rattle.spv_module.specs.declared.module.ConstantValue.TheVariants as value
use Rattle.spv_module.specs.declared.module.Decoration.{Decoration}
use Rattle.spv_module.specs.declared.module.Variable.{Variable}
use Rattle.spv_module.specs.Spelled.{decoration_by, decoration_spelled, constant_by, constant_spelled, variable_spelled}
use Rattle.spv_build.specs.Items.{constant_of, decoration_of, variable_of}
use Rattle.spv_build.specs.Laws.{at}

abbrev decoration_with : Option ℕ → Decoration → Decoration
decoration_with member decoration = record decoration { member = member }

decoration-back : (member : Option ℕ) (decoration : Decoration) → decoration_of (at decoration.place (decoration_by member decoration)) ≡ Some (decoration_with member decoration)
decoration-back None decoration = refl
decoration-back (Some member) decoration = refl

pub decorations : (decoration : Decoration) → decoration_of (at decoration.place (decoration_spelled decoration)) ≡ Some decoration
decorations decoration = decoration-back decoration.member decoration

abbrev constant_as : ConstantValue → Constant → Constant
constant_as value constant = record constant { value = value }

constant-back : (value : ConstantValue) (constant : Constant) → constant_of (at constant.place (constant_by constant.ty constant.id value)) ≡ Some (constant_as value constant)
constant-back value.True constant = refl
constant-back value.False constant = refl
constant-back (value.Number low None) constant = refl
constant-back (value.Number low (Some high)) constant = refl
constant-back (value.Composite parts) constant = refl
constant-back value.Null constant = refl

pub constants : (constant : Constant) → constant_of (at constant.place (constant_spelled constant)) ≡ Some constant
constants constant = constant-back constant.value constant

abbrev variable_as : Class → Option ℕ → Variable → Variable
variable_as class initializer variable = record variable { class = class; initializer = initializer }

variable-back : (class : Class) (initializer : Option ℕ) (variable : Variable)
    → variable_of (at variable.place (variable_spelled (variable_as class initializer variable))) ≡ Some (variable_as class initializer variable)
variable-back class.Private None variable = refl
variable-back class.Private (Some id) variable = refl
variable-back class.Global None variable = refl
variable-back class.Global (Some id) variable = refl
variable-back class.Constant None variable = refl
variable-back class.Constant (Some id) variable = refl
variable-back class.Local None variable = refl
variable-back class.Local (Some id) variable = refl
variable-back class.Generic None variable = refl
variable-back class.Generic (Some id) variable = refl
variable-back class.Input None variable = refl
variable-back class.Input (Some id) variable = refl

pub variables : (variable : Variable) → variable_of (at variable.place (variable_spelled variable)) ≡ Some variable
variables variable = variable-back variable.class variable.initializer variable
