pub mod Counts
pub mod Ladder
pub mod Relative
pub mod inside
