pub mod Sizes
pub mod Idle
pub mod Clock
