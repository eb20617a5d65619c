pub mod Listing
pub mod Reading
pub mod Valued
pub mod Billing
pub mod Laws
pub mod Cans
