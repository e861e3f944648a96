pub mod Sums
pub mod Nodes
pub mod Charges
pub mod Kept
