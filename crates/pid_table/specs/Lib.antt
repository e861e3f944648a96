pub mod Bare
pub mod Lists
