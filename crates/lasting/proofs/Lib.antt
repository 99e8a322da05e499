pub mod Runs
pub mod Spells
pub mod Words
pub mod NewRuns
pub mod Parts
