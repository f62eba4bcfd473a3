-- What is proved of the states that the code alone keeps.
pub mod Linked
pub mod Numbers
pub mod Meeting
pub mod Walking
pub mod Rounds
