pub mod Words
pub mod Strings
pub mod Feeds
pub mod Laws
