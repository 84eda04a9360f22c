pub mod FindLemmas
pub mod NameLemmas
pub mod ExtraLemmas
