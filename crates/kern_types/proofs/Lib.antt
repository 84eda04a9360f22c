-- Lemmas on layouts
pub mod SizeLemmas
pub mod StructLemmas
pub mod EntryLemmas
pub mod OffsetLemmas
pub mod StepLemmas
pub mod TableLemmas
pub mod AlignLemmas
pub mod PathLemmas
