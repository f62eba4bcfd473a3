pub mod Blocks
pub mod Carrying
pub mod Laws
pub mod ByGoal
pub mod Standing
