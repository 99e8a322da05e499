pub mod Bounds
pub mod Axes
pub mod InRow
