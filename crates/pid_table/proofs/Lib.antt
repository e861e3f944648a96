pub mod Begun
pub mod Counted
