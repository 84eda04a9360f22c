pub mod ItemsRead
pub mod OperandFacts
pub mod PartFacts
pub mod Readings
pub mod TypeBegins
pub mod WholeFacts
