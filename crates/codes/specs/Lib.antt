pub mod Addresses
pub mod Range
pub mod Latch
pub mod Mode
pub mod Axes
pub mod Wait
