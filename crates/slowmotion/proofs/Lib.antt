pub mod Waits
pub mod Steps
pub mod Detector
pub mod Words
pub mod Held
