pub mod Owned
pub mod Held
pub mod Lending
pub mod ReplicaLending
