pub mod Leaving
pub mod Ending
