pub mod Numbers
pub mod CallNumbers
pub mod Tasks
pub mod Spaces
pub mod Replies
pub mod Whom
pub mod Effects
pub mod Replicas
