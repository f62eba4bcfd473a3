-- What is proved of the states that the code alone keeps.
pub mod Flips
pub mod Counts
pub mod Added
pub mod BentWords
pub mod Costs
