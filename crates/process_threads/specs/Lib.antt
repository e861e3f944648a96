pub mod Threads
pub mod Places
