pub mod Calls
pub mod Puts
pub mod Reads
pub mod Tells
pub mod LogRule
pub mod HostWorld
pub mod CallPromises
pub mod CallNumbers
