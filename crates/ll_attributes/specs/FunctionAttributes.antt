-- Attributes of functions, as they are read: all that there are; none is kept (LLVM 14, Function Attributes; Attribute
-- Groups).
use Rattle.std.specs.Prelude.{◌≡◌, ◌⊎◌, List, Contains}
use Rattle.ll_tokens.specs.declared.kinds.TokenKind.TheVariants.{Attr, Str, Word}
use Rattle.ll_tokens.specs.Tokens.{Lexeme}
use Rattle.ll_parser.specs.declared.refusal.Refusal.{Refusal}
use Rattle.ll_parser.specs.GrammarAttributes.{attribute_group, function_words}
use Rattle.ll_parser.specs.NameReading.{IsNoName, any_of}
use Rattle.ll_parser.specs.Productions.{Production, ◌>>◌, ◌or◌, token, mark}
use Rattle.ll_parser.specs.Reading.{EndsNowhere}
use Rattle.ll_parser.specs.Spaces.{IsUnexpected}
use Rattle.ll_attributes.specs.Lists.{SkipsAll, StopsBehind, some_of}

abbrev pub function_word : Production
function_word = token Word (λ lexeme. Contains function_words lexeme.text)

-- nothing with which an attribute of a function begins
pub record NoFunctionAttribute (tokens : List Lexeme) : Type 0 where
  pub no_group : EndsNowhere (any_of Attr) tokens
  pub no_text : EndsNowhere (any_of Str) tokens
  pub no_word : EndsNowhere function_word tokens

-- a text behind `=`, 61, where a `=` begins the tokens
abbrev pub value_here : Production
value_here tokens rest = (mark 61 >> any_of Str) tokens rest ⊎ ((tokens ≡ rest) × EndsNowhere (mark 61) tokens)

abbrev pub text_here : Production
text_here = any_of Str >> value_here

abbrev pub function_attribute_here : Production
function_attribute_here = attribute_group or text_here or function_word

abbrev pub some_function_attributes : Production
some_function_attributes = some_of (λ (_ : Unit {0}). function_attribute_here)

-- attributes of a function, behind which no further one begins
abbrev pub function_attributes_here : Production
function_attributes_here = SkipsAll some_function_attributes NoFunctionAttribute

-- no group begins the tokens: rule 3 is broken where no `#` and digits stand, and rule 4 by digits of 2^31 or more
abbrev pub IsNoGroup : List Lexeme → Refusal → Type 0
IsNoGroup tokens refusal = EndsNowhere attribute_group tokens × IsNoName Attr tokens refusal

-- an attribute of a function that begins and is refused
pub data FunctionAttributeFails : List Lexeme → Refusal → Type 0 where
  in_group : {tokens : List Lexeme} {refusal : Refusal} (behind : List Lexeme) → any_of Attr tokens behind → IsNoGroup tokens refusal → FunctionAttributeFails tokens refusal
  in_text : {tokens : List Lexeme} {refusal : Refusal} (behind end : List Lexeme) → any_of Str tokens behind → mark 61 behind end → IsUnexpected (any_of Str) end refusal → FunctionAttributeFails tokens refusal

abbrev pub FunctionAttributesFail : List Lexeme → Refusal → Type 0
FunctionAttributesFail = StopsBehind some_function_attributes FunctionAttributeFails
