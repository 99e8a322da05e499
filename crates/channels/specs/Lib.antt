pub mod Codes
pub mod Channels
