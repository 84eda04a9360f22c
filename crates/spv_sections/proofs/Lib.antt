pub mod Ranks
pub mod Scans
