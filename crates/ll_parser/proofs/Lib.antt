pub mod Decimals
pub mod EndFacts
pub mod PointerFacts
pub mod SpaceFacts
pub mod TokenFacts
pub mod OneReading
pub mod WordTypeFacts
pub mod TableFacts
