pub mod Status
pub mod Words
pub mod Held
