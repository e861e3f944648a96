pub mod Drawn
pub mod Inserted
pub mod LeastNumber
pub mod LeastRow
