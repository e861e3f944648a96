pub mod Calls
pub mod Chronicle
pub mod Whole
pub mod Promise
pub mod Replicas
