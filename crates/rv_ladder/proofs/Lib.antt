pub mod Steps
pub mod Counting
pub mod Maps
pub mod inside
