-- What is proved of the states that the code alone keeps.
pub mod Operations
