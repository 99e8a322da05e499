pub mod Choice
pub mod Lists
pub mod Keys
pub mod Bits
pub mod Bytes
pub mod Table
pub mod Refusals
pub mod Outcome
