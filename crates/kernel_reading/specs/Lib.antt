pub mod CanonicalKernels
pub mod Examples
pub mod Laws
