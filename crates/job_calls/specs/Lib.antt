pub mod Below
pub mod Causes
pub mod Handed
pub mod Headline
pub mod Big
