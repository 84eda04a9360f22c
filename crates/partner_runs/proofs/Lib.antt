mod Listed
mod Partners
pub mod Translations
