pub mod Blocks
pub mod Decomposition
pub mod Extends
pub mod inside
pub mod Widened
