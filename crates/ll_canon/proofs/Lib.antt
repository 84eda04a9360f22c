mod CanonicalMade
pub mod NumberedAgain
pub mod NumberedForms
pub mod SameForms
