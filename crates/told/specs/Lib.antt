pub mod Histories
pub mod Plain
