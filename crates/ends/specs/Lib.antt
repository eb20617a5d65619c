pub mod Results
pub mod Decided
