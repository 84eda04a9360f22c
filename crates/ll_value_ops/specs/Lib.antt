pub mod ValueOpcodes
pub mod ValueOperations
