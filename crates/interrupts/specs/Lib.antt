pub mod Statuses
pub mod Maps
pub mod Pins
