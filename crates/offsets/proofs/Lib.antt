pub mod Signed
pub mod Inside
