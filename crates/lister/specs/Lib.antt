pub mod Listing
pub mod Numbered
