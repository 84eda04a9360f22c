-- Lemmas on the text of events
pub mod TextLemmas
pub mod NumberLemmas
