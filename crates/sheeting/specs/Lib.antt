pub mod Sheeting
