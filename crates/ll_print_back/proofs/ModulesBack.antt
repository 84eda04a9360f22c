-- The text that a module is written as is one of the same module.
use Rattle.std.proofs.Common.{ℕ, List}
use Rattle.ll_tree.specs.declared.module.LlModule.{LlModule}
use Rattle.ll_tree.specs.Modules.{IsSame}
use Rattle.ll_phrases.specs.Phrases.{written}
use Rattle.ll_printed.specs.ModulePhrases.{module_phrase}
use Rattle.ll_printed.proofs.ModulesAgain.{again, with-tokens}
use Rattle.ll_print_depth.proofs.ModulesLead.{nests-no-deeper}
use Rattle.ll_texts.specs.TextRules.{IsModuleText}

pub read-back : (text : List ℕ) (m : LlModule) → IsModuleText text m → (found : LlModule) × IsSame found m × IsModuleText (written (module_phrase m)) found
read-back text m is =
    let (tokens, are, spelt) = with-tokens is.tokens m is.reads in
    let (found, same, reads) = again is.tokens m is.reads tokens spelt in
    (found, same, record { tokens = tokens; are_tokens = are; reads = reads; shallow = nests-no-deeper text is.tokens m is.are_tokens is.reads is.shallow tokens spelt })
