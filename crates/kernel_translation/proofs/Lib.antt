pub mod Back
pub mod Binaries
pub mod Sources
