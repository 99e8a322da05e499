pub mod Laws
pub mod Course
