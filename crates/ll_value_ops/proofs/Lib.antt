pub mod ExactOperations
pub mod FlagsRead
pub mod OperationsRead
pub mod OpcodesApart
pub mod PartsDerived
