pub mod Alarm
pub mod Course
