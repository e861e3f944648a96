pub mod Progress
pub mod Session
pub mod Dialogue
pub mod Job
pub mod Counts
