mod Cascades
pub mod Curves
mod Embedded
