pub mod Fields
pub mod Text
pub mod Lines
pub mod Replayed
