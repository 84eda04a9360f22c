pub mod Shapes
pub mod Acts
pub mod Effects
pub mod States
pub mod Steps
pub mod Bodies
pub mod KnownEffects
pub mod Laws
