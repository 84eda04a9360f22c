pub mod Guesses
pub mod Laws
pub mod ModulesOf
pub mod NamedForms
pub mod OwnNames
pub mod SameModules
