pub mod Turning
pub mod Onward
pub mod Walking
pub mod Stepping
