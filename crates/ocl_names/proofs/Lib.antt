-- Lemmas on names and numbers
pub mod SearchLemmas
pub mod OrderLemmas
pub mod WorkItemLemmas
pub mod AtomicLemmas
pub mod SyncscopeLemmas
pub mod ComeBackLemmas
pub mod DisjointLemmas
