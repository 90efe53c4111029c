pub mod Guesses
pub mod Line
pub mod ReadLines
pub mod Words
