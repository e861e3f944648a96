pub mod Disk
pub mod Next
pub mod Numbers
pub mod Promises
pub mod Turning
pub mod World
