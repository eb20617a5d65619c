pub mod Moving
pub mod Bridge
pub mod Looping
pub mod Answering
