pub mod Places
pub mod OneOutcome
