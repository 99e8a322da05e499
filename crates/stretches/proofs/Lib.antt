pub mod Histories
pub mod Stretches
pub mod Kept
pub mod Ranges
pub mod Lost
pub mod Modes
