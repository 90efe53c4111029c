pub mod Rows
pub mod Held
pub mod Counted
pub mod Holding
pub mod Flat
pub mod Seating
pub mod Waiting
