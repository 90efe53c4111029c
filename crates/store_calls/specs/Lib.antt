pub mod Below
pub mod TryStore
pub mod Show
pub mod New
pub mod Renewed
pub mod Bundled
pub mod Audited
pub mod Traced
