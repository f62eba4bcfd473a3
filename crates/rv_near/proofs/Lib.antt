pub mod Blocks
pub mod Flips
pub mod Rows
pub mod Counting
pub mod Routed
pub mod Maps
pub mod inside
