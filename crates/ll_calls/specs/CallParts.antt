-- The parts of calls (LLVM 14, `call`).
use Rattle.std.specs.Prelude.{◌≡◌, ℕ, List, [], ◌∷◌, ◌++◌, Option}
use Rattle.ll_tree.specs.declared.name.NameText.{NameText}
use Rattle.ll_tree.specs.declared.value.TypedValue.{TypedValue}
use Rattle.ll_parser.specs.GrammarAttributes.{any_attributes}
use Rattle.ll_parser.specs.GrammarInsts.{argument, convention}
use Rattle.ll_parser.specs.GrammarTypes.{ty}
use Rattle.ll_parser.specs.GrammarValues.{global}
use Rattle.ll_parser.specs.Productions.{Production, ◌>>◌, each_behind_comma, listed, mark, maybe}
use Rattle.ll_parser.specs.Reading.{EndsNowhere}
use Rattle.ll_operands.specs.Parts.{Part, any, either, global_part, mark_part, repeated, ◌then◌, type_part, type_then, value_part}
use Rattle.ll_attributes.specs.AttributeParts.{attributes_here}
use Rattle.ll_attributes.specs.AttributeRefusals.{AttributesFail}
use Rattle.ll_attributes.specs.FunctionAttributes.{FunctionAttributesFail, function_attributes_here}
use Rattle.ll_attributes.specs.Heads.{call_convention}
use Rattle.ll_attributes.specs.Lists.{maybe_here}
use Rattle.ll_calls.specs.declared.callees.Callee.{Callee}
use Rattle.ll_calls.specs.declared.calls.Called.{Called}

-- the function that is called, behind what isn't kept: the calling convention and attributes of the result
abbrev pub callee : List NameText → Callee → Production
callee names c = maybe (convention names) >> any_attributes names >> ty names c.ty >> global names c.name

-- arguments and the `)`, 41, behind them
abbrev pub arguments : List NameText → List TypedValue → Production
arguments names xs = listed (argument names) xs >> mark 41

-- an argument behind a comma, 44
abbrev pub next_argument : List NameText → TypedValue → Production
next_argument names x = mark 44 >> argument names x

-- arguments, one at least, behind which there is no further comma
abbrev pub some_arguments : List NameText → List TypedValue → Production
some_arguments names [] tokens rest = ⊥
some_arguments names (x ∷ xs) tokens rest = listed (argument names) (x ∷ xs) tokens rest × EndsNowhere (mark 44) rest

-- what was read before, and arguments behind commas, as many as there are
abbrev pub more_arguments : List TypedValue → List NameText → List TypedValue → Production
more_arguments before names all tokens rest =
    (xs : List TypedValue) × (all ≡ before ++ xs) × each_behind_comma (argument names) xs tokens rest × EndsNowhere (mark 44) rest

-- what stands behind the word `call`, 40 being `(`, with all attributes of the function
abbrev pub called : List NameText → Called → Production
called names c = callee names c.callee >> mark 40 >> arguments names c.arguments >> function_attributes_here

-- a calling convention need not stand, and is never refused
abbrev pub convention_part : Part
convention_part = record { begins = maybe_here call_convention; stops = λ tokens refusal. ⊥ }

abbrev pub attributes_part : Part
attributes_part = record { begins = any attributes_here; stops = AttributesFail }

abbrev pub callee_part : Part
callee_part = convention_part then attributes_part then type_part then global_part

abbrev pub argument_of : Option ℕ → Part
argument_of width = attributes_part then value_part width

abbrev pub argument_part : Part
argument_part = type_then argument_of

abbrev pub next_argument_part : Part
next_argument_part = mark_part 44 then argument_part

abbrev pub some_part : Part
some_part = argument_part then repeated (mark 44) next_argument_part

abbrev pub arguments_part : Part
arguments_part = either (mark 41) (mark_part 41) (some_part then mark_part 41)

abbrev pub function_attributes_part : Part
function_attributes_part = record { begins = function_attributes_here; stops = FunctionAttributesFail }

abbrev pub called_part : Part
called_part = callee_part then mark_part 40 then arguments_part then function_attributes_part
