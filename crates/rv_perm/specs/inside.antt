pub mod State
pub mod Steps
pub mod Cells
pub mod Walk
pub mod Places
pub mod laws
