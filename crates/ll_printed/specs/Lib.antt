pub mod FunctionPhrases
pub mod Laws
pub mod ModulePhrases
pub mod OpPhrases
