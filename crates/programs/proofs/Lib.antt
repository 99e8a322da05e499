pub mod Programs
pub mod Contracts
