pub mod Laws
mod Burst
mod Events
