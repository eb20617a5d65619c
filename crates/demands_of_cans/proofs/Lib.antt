pub mod Costing
pub mod Carding
