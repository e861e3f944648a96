pub mod Crc
pub mod Form
pub mod Places
pub mod Taking
pub mod Ends
pub mod Reading
