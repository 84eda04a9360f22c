mod Answered
mod Seqs
mod Spelled
mod Targets
mod UsesRenamed
mod ValueShapes
