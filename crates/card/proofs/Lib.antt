pub mod Laying
pub mod Carding
pub mod Laws
pub mod Answering
pub mod Cards
