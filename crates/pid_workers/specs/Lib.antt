pub mod Audits
pub mod Made
pub mod MadeLaws
