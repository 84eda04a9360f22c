pub mod KeptLists
pub mod TextLemmas
pub mod ModeLists
pub mod ReadBack
pub mod SpelledAgain
pub mod FunctionsBack
pub mod FitsForm
