pub mod FirstKernel
pub mod FirstRuns
pub mod Alike
pub mod Names
pub mod Images
pub mod Laws
pub mod FirstImages
pub mod Canonical
