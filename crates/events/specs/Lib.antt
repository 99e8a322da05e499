pub mod Event
pub mod Views
pub mod Run
pub mod Bank
pub mod Parts
pub mod Clocks
