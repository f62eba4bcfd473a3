mod Cubes
mod Values
pub mod Steps
pub mod Finds
pub mod inside
