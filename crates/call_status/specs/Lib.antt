pub mod Statuses
pub mod Call
pub mod SourceText
pub mod Reading
pub mod Opening
pub mod Faults
pub mod Printed
