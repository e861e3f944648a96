pub mod LowIds
pub mod Kept
pub mod Refused
