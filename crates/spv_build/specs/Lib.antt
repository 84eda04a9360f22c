pub mod Answers
pub mod Entries
pub mod Functions
pub mod Insts
pub mod Items
pub mod Kept
pub mod Laws
pub mod Modules
