pub mod Table
pub mod Refusals
pub mod Walks
pub mod Languages
