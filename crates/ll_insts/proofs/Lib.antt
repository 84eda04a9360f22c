pub mod BlocksRead
pub mod ExactInsts
pub mod InstsRead
pub mod OperationFacts
pub mod PartsDerived
