pub mod General
pub mod Equal
pub mod Ancestors
pub mod LeastFree
