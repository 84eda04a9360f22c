pub mod TextFaults
pub mod TextRules
