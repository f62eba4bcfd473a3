pub mod Paths
pub mod State
