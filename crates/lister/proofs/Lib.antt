pub mod Written
pub mod Texts
pub mod Examples
