pub mod Views
pub mod Kept
pub mod Told
pub mod SessionGroups
