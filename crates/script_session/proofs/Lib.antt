pub mod Names
pub mod Sent
pub mod Progress
pub mod Ends
pub mod Turns
pub mod Jobs
