pub mod Examples
pub mod Grammar
pub mod Laws
pub mod NameSorts
pub mod Parts
pub mod Phrases
pub mod Reading
