pub mod Shown
pub mod Answers
pub mod Tried
pub mod Attempts
pub mod Segments
