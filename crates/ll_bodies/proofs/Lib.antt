pub mod BodyEnds
pub mod ExactJoins
pub mod LabelsRead
pub mod NamingsRead
pub mod OperationWords
pub mod ThreadedRead
