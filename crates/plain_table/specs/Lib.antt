pub mod Least
pub mod Moved
pub mod Planned
