pub mod Reduced
pub mod Blocks
pub mod Cnots
pub mod ByGoal
pub mod StandsFor
