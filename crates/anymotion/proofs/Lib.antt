pub mod Detector
pub mod Promise
pub mod Setter
pub mod Stays
pub mod Expired
pub mod Held
pub mod Rows
