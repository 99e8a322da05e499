pub mod Totals
pub mod Histories
pub mod Logs
pub mod Months
pub mod Edges
