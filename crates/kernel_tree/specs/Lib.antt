pub mod Canonical
pub mod Covered
pub mod Modules
pub mod Names
pub mod Numbered
pub mod Same
pub mod Text
