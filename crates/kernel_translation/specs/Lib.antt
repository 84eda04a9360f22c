pub mod TextTranslations
pub mod Translations
