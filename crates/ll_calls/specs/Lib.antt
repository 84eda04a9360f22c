pub mod CallOpenings
pub mod CallParts
pub mod Calls
