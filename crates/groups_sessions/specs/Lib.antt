pub mod Membership
pub mod Setpgid
