pub mod AtSeat
pub mod Job
pub mod Receipts
