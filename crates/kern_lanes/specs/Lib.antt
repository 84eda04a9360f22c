-- The arithmetic of lanes, over whole numbers
pub mod Widths
pub mod Binary
pub mod Comparison
pub mod Conversion
pub mod Atomic
pub mod Regrouping
pub mod Scopes
pub mod Laws
