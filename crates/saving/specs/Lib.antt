pub mod Saving
pub mod Refusals
pub mod Laws
pub mod Answered
pub mod Parts
pub mod Files
