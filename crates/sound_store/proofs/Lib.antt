pub mod Groups
pub mod Ways
pub mod Made
pub mod Told
pub mod Walks
pub mod Marks
