pub mod Lines
pub mod Measure
