pub mod Draws
pub mod Born
pub mod Cursors
pub mod Limits
pub mod Plans
pub mod Into
pub mod Inside
pub mod Inner
pub mod Places
mod Foretold
pub mod Cloned
