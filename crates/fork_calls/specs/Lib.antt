pub mod Outcomes
pub mod Cloning
