pub mod Slope
pub mod Previous
pub mod Point
pub mod Runs
