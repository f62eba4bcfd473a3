-- What is proved of the steps of the code.
pub mod Waiting
