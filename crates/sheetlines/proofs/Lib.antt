pub mod Sizes
pub mod Lengths
pub mod Plain
pub mod Cases
pub mod OneOutcome
