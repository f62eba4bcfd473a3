pub mod Joined
pub mod Blocks
pub mod inside
