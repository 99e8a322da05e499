pub mod Bursts
pub mod Data
pub mod Shown
pub mod Rules
