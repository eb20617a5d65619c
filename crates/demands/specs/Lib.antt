pub mod Demanded
pub mod Owned
