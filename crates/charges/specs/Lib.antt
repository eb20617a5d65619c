pub mod Prices
pub mod Charged
pub mod Laws
