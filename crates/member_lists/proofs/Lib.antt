pub mod Owners
pub mod Rooms
pub mod Linked
pub mod Distinct
pub mod Walks
pub mod Telling
pub mod Joining
