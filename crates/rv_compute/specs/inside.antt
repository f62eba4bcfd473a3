pub mod Sums
pub mod Places
pub mod Blocks
pub mod Held
pub mod Own
pub mod Computing
