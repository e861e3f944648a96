pub mod Along
pub mod Lists
pub mod Past
pub mod Places
pub mod Shown
