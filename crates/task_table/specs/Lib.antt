pub mod Collect
pub mod View
pub mod Lawful
pub mod Whole
pub mod Store
pub mod Found
pub mod Residents
