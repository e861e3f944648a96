pub mod Numbering
pub mod Restore
pub mod Blocks
pub mod Vacancy
pub mod Table
pub mod Slabs
