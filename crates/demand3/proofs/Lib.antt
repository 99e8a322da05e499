pub mod Counts
pub mod Fates
pub mod Taken
pub mod Lost
pub mod Chip
pub mod Whole
pub mod Second
