pub mod Definitions
pub mod ModuleItems
pub mod Modules
