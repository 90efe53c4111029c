pub mod Oldest
pub mod Rounds
