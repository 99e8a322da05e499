pub mod Lines
pub mod Cases
pub mod OneOutcome
