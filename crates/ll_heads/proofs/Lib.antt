pub mod DefinitionsRead
pub mod HeadExact
pub mod HeadsAlike
pub mod HeadsRead
pub mod HeadsWhole
pub mod ParamsRead
pub mod ParamsWhole
pub mod WordsBefore
