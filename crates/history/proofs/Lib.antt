pub mod Holds
pub mod Conserve
pub mod Runs
pub mod Wrong
pub mod Said
