pub mod Texts
pub mod Ranges
pub mod Rows
pub mod Laws
pub mod Reading
pub mod Rests
