pub mod Depth
pub mod LevelsLemmas
pub mod Pending
