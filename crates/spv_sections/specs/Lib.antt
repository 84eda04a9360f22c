pub mod Places
pub mod SectionOrder
pub mod Standing
