pub mod FlowOpcodes
pub mod FlowOperations
pub mod FlowParts
