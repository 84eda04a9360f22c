-- Events and their text
pub mod Words
pub mod Texts
pub mod NumberLists
