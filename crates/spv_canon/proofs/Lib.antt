pub mod CanonicalForms
pub mod ListFacts
pub mod OneForm
pub mod PartFacts
pub mod SoundPartner
pub mod TreeFacts
pub mod ValidPartner
