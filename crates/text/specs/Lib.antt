pub mod Decimal
pub mod Characters
