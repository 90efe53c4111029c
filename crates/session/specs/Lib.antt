pub mod Below
pub mod Session
pub mod Shown
pub mod ShownLaws
pub mod SessionLaws
pub mod Opened
pub mod Went
pub mod Causes
