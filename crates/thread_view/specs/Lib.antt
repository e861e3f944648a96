pub mod Full
pub mod Calling
