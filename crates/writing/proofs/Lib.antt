pub mod Stores
pub mod Trees
pub mod Measures
pub mod Lengths
pub mod Replacing
pub mod Substituting
pub mod Rounds
