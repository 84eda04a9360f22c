pub mod Machines
pub mod Bodies
pub mod Changed
