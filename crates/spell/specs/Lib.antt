pub mod Stopwatch
pub mod Spell
