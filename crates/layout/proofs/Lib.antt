pub mod Aligning
pub mod Laws
pub mod Examples
