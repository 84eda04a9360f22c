pub mod GuessLemmas
pub mod KernelLemmas
pub mod LawLemmas
pub mod OwnNameLemmas
pub mod SameLemmas
pub mod TableLemmas
