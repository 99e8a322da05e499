pub mod InForce
pub mod Sight
pub mod Watch
pub mod Seen
pub mod Came
pub mod Marks
pub mod Held
pub mod InRow
