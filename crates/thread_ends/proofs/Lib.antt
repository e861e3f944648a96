pub mod Running
pub mod OtherLeft
pub mod FirstLeft
pub mod Leaves
pub mod KeptHomes
pub mod Endings
pub mod OneProcess
pub mod Ended
