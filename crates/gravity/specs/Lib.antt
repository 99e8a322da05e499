pub mod Sizes
pub mod Low
pub mod High
pub mod Gravity
