pub mod Counted
pub mod Told
pub mod Kept
