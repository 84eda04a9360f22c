pub mod FirstBreak
