pub mod Tree
pub mod Places
