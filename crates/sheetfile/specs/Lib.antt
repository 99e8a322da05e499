pub mod Format
pub mod Whole
pub mod Reader
pub mod Trips
pub mod Joins
