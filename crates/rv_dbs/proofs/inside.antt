-- What is proved of the states that the code alone keeps.
pub mod Free
pub mod Gates
pub mod Computes
pub mod Jumps
