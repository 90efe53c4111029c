pub mod DeedLaws
pub mod Deeds
pub mod Found
pub mod Opened
pub mod Shown
pub mod ShownLaws
