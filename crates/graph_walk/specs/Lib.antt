pub mod Levels
pub mod Preorder
