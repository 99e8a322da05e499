pub mod Demand2
pub mod Watermark
