pub mod parts
pub mod child
