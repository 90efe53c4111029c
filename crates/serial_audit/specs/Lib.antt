pub mod Below
pub mod Audit
pub mod Bundle
pub mod Progress
pub mod Trace
