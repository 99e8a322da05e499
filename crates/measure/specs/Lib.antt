pub mod Measure
pub mod Promise
