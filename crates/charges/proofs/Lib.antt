pub mod Pricing
pub mod Laws
