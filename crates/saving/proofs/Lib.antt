pub mod Bytes
pub mod Saving
pub mod Laws
pub mod Going
pub mod Files
