pub mod Detector
