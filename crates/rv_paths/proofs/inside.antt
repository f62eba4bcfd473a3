-- What is proved of the states that the code alone keeps.
pub mod Parities
pub mod Vanishing
pub mod Turning
pub mod Followed
pub mod Arrangement
