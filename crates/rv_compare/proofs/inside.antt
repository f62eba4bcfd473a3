-- What is proved of the states that the code alone keeps.
pub mod Drawn
pub mod Found
pub mod Images
pub mod Least
pub mod Rows
