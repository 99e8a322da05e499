pub mod Run
pub mod Lasting
pub mod Words
