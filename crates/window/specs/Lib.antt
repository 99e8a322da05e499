pub mod Given
pub mod Window
