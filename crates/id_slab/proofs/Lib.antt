pub mod Lives
pub mod Keys
