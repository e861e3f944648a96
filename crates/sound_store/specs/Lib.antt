pub mod Tasks
pub mod Spaces
pub mod Groups
pub mod Ways
pub mod Flaws
