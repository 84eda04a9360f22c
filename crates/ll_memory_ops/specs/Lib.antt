pub mod AccessParts
pub mod AddressParts
pub mod AllocationParts
pub mod AtomicParts
pub mod MemoryOpcodes
pub mod MemoryOperations
pub mod OrderParts
