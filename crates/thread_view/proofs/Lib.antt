pub mod Threads
pub mod Callers
pub mod Alone
pub mod Named
pub mod Counted
pub mod Begun
pub mod StaysWhole
