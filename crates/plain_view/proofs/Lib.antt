pub mod Climbs
pub mod Draws
pub mod Taken
