-- What is proved of the states that the code alone keeps.
pub mod Shifts
pub mod Running
pub mod Moving
pub mod Gathers
pub mod Routes
pub mod Steps
