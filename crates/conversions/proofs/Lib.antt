pub mod ByType
pub mod Crossing
