pub mod Points
pub mod Previous
pub mod Runs
