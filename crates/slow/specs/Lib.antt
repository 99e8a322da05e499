pub mod Slow
