pub mod Answers
pub mod Operators
pub mod Variables
pub mod Infers
