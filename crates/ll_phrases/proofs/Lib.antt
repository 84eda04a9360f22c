pub mod NameTexts
pub mod NamesWritten
pub mod PhrasesRead
pub mod QuotedTexts
pub mod TypesWritten
pub mod ValuesWritten
pub mod Written
