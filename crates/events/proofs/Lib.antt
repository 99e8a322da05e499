pub mod Parts
pub mod Runs
pub mod Given
pub mod Clocks
