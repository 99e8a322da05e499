pub mod Digits
pub mod Cases
pub mod OneOutcome
pub mod Arguments
