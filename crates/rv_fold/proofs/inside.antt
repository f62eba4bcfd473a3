-- What is proved of the states that the code alone keeps.
pub mod ParityLists
pub mod Mixed
pub mod Beginnings
pub mod Sums
pub mod Steps
pub mod Slots
