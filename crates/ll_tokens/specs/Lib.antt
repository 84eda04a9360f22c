pub mod Breaks
pub mod Encoding
pub mod Forms
pub mod Gap
pub mod Longest
pub mod Reach
pub mod Tokens
