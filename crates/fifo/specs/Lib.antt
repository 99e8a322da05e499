pub mod Setting
pub mod Queue
pub mod Ledger
pub mod Flat
pub mod Store
