pub mod Turns
pub mod Blocks
pub mod Ends
pub mod OneOutcome
