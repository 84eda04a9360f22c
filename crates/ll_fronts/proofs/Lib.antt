pub mod Attributes
pub mod Insts
pub mod Items
pub mod Joins
pub mod Operations
pub mod Refusals
pub mod Shorter
