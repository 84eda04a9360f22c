pub mod ReadStrings
pub mod ReadLoops
pub mod InstLemmas
pub mod FramingLemmas
pub mod StreamLaws
pub mod FramingLaws
pub mod ReadGroups
pub mod ReadRuns
