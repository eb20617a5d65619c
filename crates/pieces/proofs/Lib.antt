pub mod Looks
pub mod Parts
pub mod Showing
pub mod Written
