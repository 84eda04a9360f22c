pub mod InstsOfModules
pub mod ModulesOfKernels
pub mod NestedPhrases
pub mod NestedTokens
pub mod ParamsOfModules
pub mod TypesOfModules
