pub mod Phrases
pub mod Texts
pub mod TypePhrases
pub mod ValuePhrases
pub mod Layouts
pub mod Laws
