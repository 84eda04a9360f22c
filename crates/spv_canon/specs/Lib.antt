pub mod Canonical
pub mod Laws
pub mod Sound
pub mod Trees
pub mod Valid
