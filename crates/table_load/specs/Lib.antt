pub mod Faults
pub mod Young
