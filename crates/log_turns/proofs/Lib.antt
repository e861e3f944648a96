pub mod Counts
pub mod Events
pub mod Fronts
pub mod Kept
pub mod Reading
pub mod Sound
pub mod Steps
