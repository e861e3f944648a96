pub mod Ranks
pub mod Heap
