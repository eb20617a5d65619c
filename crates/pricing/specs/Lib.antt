pub mod Items
pub mod Pricing
pub mod Refusals
pub mod Laws
pub mod Answered
pub mod Parts
pub mod Cans
