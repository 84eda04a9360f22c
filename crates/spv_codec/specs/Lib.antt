pub mod Decoding
pub mod Framing
pub mod Groups
pub mod Ids
pub mod Instructions
pub mod Laws
pub mod Operands
