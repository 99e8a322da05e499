pub mod Counts
pub mod Lost
pub mod Chip
pub mod Demand
pub mod Whole
