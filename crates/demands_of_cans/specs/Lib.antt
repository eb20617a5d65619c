pub mod Priced
pub mod Carded
