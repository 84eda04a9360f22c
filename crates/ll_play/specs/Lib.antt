pub mod Types
pub mod Acts
pub mod Meaning
pub mod KnownActs
pub mod Laws
