pub mod Given
pub mod Wrote
pub mod Puts
pub mod Spans
pub mod Substituted
