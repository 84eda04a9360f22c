pub mod Attachments
pub mod AttributeParts
pub mod AttributeRefusals
pub mod FunctionAttributes
pub mod Heads
pub mod Lists
