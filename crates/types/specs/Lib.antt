pub mod Links
pub mod References
pub mod Comparisons
