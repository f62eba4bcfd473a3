pub mod Basis
pub mod Bends
pub mod Flips
