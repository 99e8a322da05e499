pub mod Low
pub mod High
pub mod Held
