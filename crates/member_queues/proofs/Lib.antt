pub mod Trees
pub mod Walks
pub mod Sinking
pub mod Filling
pub mod Entering
pub mod Telling
pub mod Melding
pub mod Marking
