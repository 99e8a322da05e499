pub mod Detectors
