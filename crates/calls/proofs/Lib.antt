pub mod Kind
pub mod PinCodes
pub mod Calls
pub mod Contract
