-- Names of functions, scopes and orders, and the numbers that they stand for
pub mod Mangling
pub mod WorkItems
pub mod Barriers
pub mod Atomics
pub mod Storage
pub mod Orders
pub mod Syncscopes
pub mod Laws
