pub mod Joins
pub mod OneOutcome
