pub mod BodyJoins
pub mod BodyWords
pub mod Labels
pub mod Namings
