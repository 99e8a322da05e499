pub mod Texts
pub mod Numerals
pub mod Spelled
pub mod Cases
pub mod OneOutcome
