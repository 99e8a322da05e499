pub mod Behind
pub mod OneOutcome
