pub mod ArgumentsRead
pub mod CallsRead
pub mod CallsWhole
pub mod ExactCalls
pub mod OpeningsApart
pub mod PartsDerived
pub mod WordsBefore
