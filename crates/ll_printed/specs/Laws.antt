-- What a module is written as is read again.
use Rattle.std.specs.Prelude.{◌≡◌, List, []}
use Rattle.ll_tokens.specs.Tokens.{IsTokens, Lexeme}
use Rattle.ll_tree.specs.declared.module.LlModule.{LlModule}
use Rattle.ll_tree.specs.declared.name.NameText.{NameText}
use Rattle.ll_tree.specs.declared.op.Op.{Op}
use Rattle.ll_tree.specs.Modules.{IsSame}
use Rattle.ll_tree.specs.Names.{name_unplaced}
use Rattle.ll_tree.specs.Ops.{op_changed}
use Rattle.ll_parser.specs.GrammarInsts.{operation}
use Rattle.ll_parser.specs.GrammarItems.{IsModule}
use Rattle.ll_printed.specs.ModulePhrases.{module_phrase}
use Rattle.ll_printed.specs.OpPhrases.{op_phrase}
use Rattle.ll_phrases.specs.Phrases.{spelled, written}

-- where some tokens are an instruction, those of its phrase are the same instruction, places aside
abbrev pub WrittenOperationsAreRead : Type 0
WrittenOperationsAreRead =
    (names : List NameText) (o : Op) (tokens rest : List Lexeme) → operation names o tokens rest → (ts behind : List Lexeme) → spelled (op_phrase names o) ts behind
    → (found : Op) × (op_changed name_unplaced (λ byte. 0) found ≡ op_changed name_unplaced (λ byte. 0) o) × operation names found ts behind

-- where some tokens are a module, those of its phrase are the same module, places aside, with the same table of names
abbrev pub WrittenModulesAreRead : Type 0
WrittenModulesAreRead = (tokens : List Lexeme) (m : LlModule) → IsModule tokens m → (ts : List Lexeme) → spelled (module_phrase m) ts [] → (found : LlModule) × IsSame found m × IsModule ts found

-- and the text of its phrase has such tokens
abbrev pub WrittenModulesHaveTokens : Type 0
WrittenModulesHaveTokens = (tokens : List Lexeme) (m : LlModule) → IsModule tokens m → (ts : List Lexeme) × IsTokens (written (module_phrase m)) ts × spelled (module_phrase m) ts []
