pub mod GoodTasks
pub mod Heirs
pub mod Fall
