pub mod Fronts
pub mod Joins
pub mod Lanes
pub mod Refusals
pub mod Types
pub mod Values
