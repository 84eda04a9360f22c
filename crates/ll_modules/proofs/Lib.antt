pub mod CollectedRead
pub mod DefinitionsRead
pub mod ItemEnds
pub mod ItemsExact
pub mod ItemsRead
pub mod ItemsWhole
pub mod SmallShorter
