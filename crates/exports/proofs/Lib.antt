pub mod Packing
pub mod Billing
pub mod Filing
pub mod Carrying
