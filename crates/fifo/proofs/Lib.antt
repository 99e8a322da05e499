pub mod Bounds
pub mod Conserve
pub mod Meaning
pub mod Store
