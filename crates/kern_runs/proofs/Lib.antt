pub mod Steps
pub mod Correspondence
