pub mod Pairs
pub mod Meanings
pub mod Frames
pub mod Matching
pub mod Comparing
pub mod Formers
