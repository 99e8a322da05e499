pub mod Levels
pub mod Maps
