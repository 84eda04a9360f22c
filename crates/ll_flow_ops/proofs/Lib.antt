pub mod ExactOperations
pub mod OpcodesApart
pub mod OperationsRead
pub mod PartsDerived
pub mod PhisRead
pub mod ReturnTypes
pub mod SwitchesRead
