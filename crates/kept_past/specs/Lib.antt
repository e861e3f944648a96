pub mod Opening
pub mod Past
pub mod Stored
