-- What is told of an input that is no module's text.
use Rattle.std.specs.Prelude.{◌≡◌, ◌⊎◌, ℕ, List, Option, None, Some, IsUtf8}
use Rattle.ports.specs.declared.faults.LlError.{LlError}
use Rattle.ports.specs.declared.faults.LlError.TheVariants.{Fault, NoMemory}
use Rattle.ports.specs.declared.faults.LlFault.{LlFault}
use Rattle.rule_order.specs.Breaks.{RulePlaces, first_refusal}
use Rattle.rule_order.specs.declared.breaks.Break.{Break}
use Rattle.ll_tokens.specs.Encoding.{IsEncodingFault}
use Rattle.ll_tree.specs.declared.module.LlModule.{LlModule}
use Rattle.ll_texts.specs.TextRules.{HasTextRules, IsModuleText}

abbrev pub break_of : LlFault → Break
break_of fault = record { rule = fault.rule; place = fault.byte }

-- of the rules that the text breaks, this one is broken first: at the least place, and there it has the least number
pub record IsGrammarFault (text : List ℕ) (fault : LlFault) : Type 0 where
  pub rules : List RulePlaces
  pub has : HasTextRules text rules
  pub first : first_refusal rules ≡ Some (break_of fault)

abbrev pub IsParseError : List ℕ → LlError → Type 0
IsParseError text NoMemory = Unit {0}
IsParseError text (Fault fault) = IsGrammarFault text fault

-- the input is no UTF-8, or is a text that breaks a rule of the grammar
abbrev pub IsTextFault : List ℕ → LlFault → Type 0
IsTextFault input fault = IsEncodingFault input fault ⊎ (IsUtf8 input × IsGrammarFault input fault)

-- the input is the text of a module
pub record IsModuleInput (input : List ℕ) : Type 0 where
  pub utf8 : IsUtf8 input
  pub m : LlModule
  pub text : IsModuleText input m

-- an input is a module's text, or what is told of it
abbrev pub IsChecked : List ℕ → Option LlFault → Type 0
IsChecked input None = IsModuleInput input
IsChecked input (Some fault) = IsTextFault input fault
