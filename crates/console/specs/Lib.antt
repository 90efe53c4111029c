pub mod Below
pub mod Words
pub mod Causes
pub mod Listed
pub mod Did
pub mod Wants
