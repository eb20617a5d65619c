pub mod Buffered
pub mod Lent
pub mod Ran
pub mod Answered
