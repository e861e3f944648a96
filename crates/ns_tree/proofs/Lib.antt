pub mod Paths
pub mod Growth
pub mod Orders
mod Nodes
mod Placed
mod Inner
mod Fallen
