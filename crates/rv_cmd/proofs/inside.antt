-- What is proved of the states that the code alone keeps.
pub mod Common
pub mod Counts
pub mod Limits
pub mod Made
pub mod Naming
pub mod Performing
pub mod Products
pub mod Taken
