pub mod Lines
pub mod Reading
pub mod Answers
pub mod Script
pub mod Lists
