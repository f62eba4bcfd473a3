pub mod LevelLaws
mod Examples
pub mod Tasks
pub mod inside
