-- What is proved of the states that the code alone keeps.
pub mod Frame
pub mod Blocks
pub mod Agreeing
pub mod Splitting
