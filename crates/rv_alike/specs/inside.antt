-- What the code alone keeps.
pub mod Inverted
