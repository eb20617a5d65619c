pub mod Carding
pub mod Refusals
pub mod Answered
pub mod Parts
pub mod Laws
pub mod Cards
