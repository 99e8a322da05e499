pub mod Answers
pub mod Refused
pub mod Deeds
