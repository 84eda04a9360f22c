pub mod Definitions
pub mod Functions
pub mod IdRules
pub mod Laws
pub mod NameRules
pub mod RoleRules
pub mod Uses
pub mod Widths
