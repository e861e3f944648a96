pub mod Ids
pub mod Entries
