pub mod Forms
pub mod Enumerants
pub mod Laws
