pub mod Running
pub mod Leaving
pub mod Demanding
pub mod Owning
