pub mod Chosen
pub mod Least
pub mod Told
pub mod Gone
pub mod Reaped
