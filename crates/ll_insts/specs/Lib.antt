pub mod Blocks
pub mod InstParts
pub mod Insts
pub mod Operations
