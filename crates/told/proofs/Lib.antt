pub mod Told
pub mod Stretches
pub mod Samples
pub mod Words
pub mod InForce
