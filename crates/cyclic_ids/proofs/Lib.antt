pub mod Beside
pub mod Draws
pub mod Searches
