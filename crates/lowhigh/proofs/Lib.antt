pub mod Delays
pub mod LowPoints
pub mod HighPoints
pub mod Low
pub mod High
pub mod Held
pub mod Marks
