pub mod Asked
pub mod Below
pub mod Drill
pub mod Drilled
pub mod Stopping
pub mod StoppingDisk
