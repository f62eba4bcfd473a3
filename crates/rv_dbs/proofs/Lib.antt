pub mod Walks
pub mod Pairs
pub mod Between
pub mod Loops
pub mod Steps
pub mod Stepped
mod Examples
pub mod inside
