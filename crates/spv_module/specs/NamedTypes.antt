-- The types of a module as contracts see them: a table, and the name of each of its types (SPIR-V 1.2, 3.32.6 "Type-Declaration
-- Instructions").
use Rattle.std.specs.Prelude.{List}
use Rattle.kern_types.specs.Tables.{Table}
use Rattle.spv_module.specs.declared.types.TypeName.{TypeName}

pub record NamedTypes : Type 0 where
  pub table : Table
  pub names : List TypeName
