pub mod RuleFacts
pub mod TextLaws
