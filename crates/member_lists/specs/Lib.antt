pub mod Owners
pub mod Links
