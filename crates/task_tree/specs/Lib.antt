pub mod Tree
pub mod Waiting
pub mod Places
