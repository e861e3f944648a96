pub mod Effects
pub mod Touched
pub mod Changes
pub mod Whom
pub mod Belonging
pub mod Reckoned
pub mod Spaces
pub mod Distinct
