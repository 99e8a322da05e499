pub mod Status
pub mod Marks
pub mod Held
