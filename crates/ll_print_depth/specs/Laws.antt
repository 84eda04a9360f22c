-- How deep what is written nests.
use Rattle.std.specs.Prelude.{◌≡◌, ℕ, List, [], None}
use Rattle.ll_tokens.specs.Tokens.{IsTokens, Lexeme}
use Rattle.ll_tree.specs.declared.module.LlModule.{LlModule}
use Rattle.ll_parser.specs.GrammarItems.{IsModule}
use Rattle.ll_types.specs.Nesting.{nesting_refusal}
use Rattle.ll_printed.specs.ModulePhrases.{module_phrase}
use Rattle.ll_phrases.specs.Phrases.{spelled}

-- where no bracket of a module's text is nested too deep, none of the tokens that it is written as is
abbrev pub WrittenModulesNestNoDeeper : Type 0
WrittenModulesNestNoDeeper =
    (text : List ℕ) (tokens : List Lexeme) (m : LlModule) → IsTokens text tokens → IsModule tokens m → nesting_refusal tokens ≡ None → (ts : List Lexeme) → spelled (module_phrase m) ts [] → nesting_refusal ts ≡ None
