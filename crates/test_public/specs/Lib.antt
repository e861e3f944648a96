pub mod Begun
pub mod Two
