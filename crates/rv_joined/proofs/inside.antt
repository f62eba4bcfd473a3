-- What is proved of the states that the code alone keeps.
pub mod Powers
pub mod Halves
pub mod Cores
pub mod Phases
pub mod Joins
pub mod Fewer
pub mod Whole
