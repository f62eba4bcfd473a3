-- What the code alone keeps.
pub mod WordLine
pub mod Answering
