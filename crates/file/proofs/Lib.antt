pub mod Bytes
pub mod Tests
pub mod Opening
