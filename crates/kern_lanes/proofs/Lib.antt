-- Lemmas on lanes
pub mod SignedLemmas
pub mod DigitLemmas
pub mod TrapLemmas
pub mod LaneLemmas
