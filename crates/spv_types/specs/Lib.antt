pub mod Laws
pub mod Numbers
pub mod Packed
pub mod Readings
pub mod Tables
