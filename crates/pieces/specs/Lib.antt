pub mod Codes
pub mod Languages
pub mod Pieces
pub mod Values
