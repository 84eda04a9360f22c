pub mod Definitions
pub mod HeadParts
pub mod Heads
pub mod Params
