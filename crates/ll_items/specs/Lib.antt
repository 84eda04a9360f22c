pub mod ItemParts
pub mod Starts
pub mod VariableParts
