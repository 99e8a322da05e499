pub mod Device
pub mod Parts
pub mod Write
pub mod Show
pub mod Read
pub mod Sample
pub mod Clock
pub mod Computed
