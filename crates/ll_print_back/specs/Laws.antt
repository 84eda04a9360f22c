-- Texts that modules are written as.
use Rattle.std.specs.Prelude.{◌≡◌, ℕ, List}
use Rattle.ll_tree.specs.declared.module.LlModule.{LlModule}
use Rattle.ll_tree.specs.Modules.{IsSame, module_changed}
use Rattle.ll_phrases.specs.Phrases.{written}
use Rattle.ll_printed.specs.ModulePhrases.{module_phrase}
use Rattle.ll_texts.specs.TextRules.{IsModuleText}
use Rattle.ll_one_module.specs.Numbers.{to_table}

-- the module of a text is written as a text of the same module, places aside, with the same table of names
abbrev pub PrintedModulesAreRead : Type 0
PrintedModulesAreRead = (text : List ℕ) (m : LlModule) → IsModuleText text m → (found : LlModule) × IsSame found m × IsModuleText (written (module_phrase m)) found

-- a module by the numbers that another one's table gives to names
abbrev pub renumbered : LlModule → LlModule → LlModule
renumbered m other = module_changed (to_table m.names other.names) (λ byte. byte) other.names m

-- two modules of one text are the same, but for the numbers of their names
abbrev pub TextsHaveOneModule : Type 0
TextsHaveOneModule = (text : List ℕ) (m other : LlModule) → IsModuleText text m → IsModuleText text other → renumbered m other ≡ other

-- whatever module is read from what the module of a text is written as, it is that module, but for places and the numbers of names
abbrev pub PrintedModulesAreThemselves : Type 0
PrintedModulesAreThemselves = (text : List ℕ) (m again : LlModule) → IsModuleText text m → IsModuleText (written (module_phrase m)) again → IsSame (renumbered again m) m
