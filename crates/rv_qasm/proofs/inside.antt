-- What is proved of the states that the code alone keeps.
pub mod Flat
pub mod Closing
pub mod Statements
pub mod LineCount
pub mod Steps
pub mod GateLaws
pub mod OperandLaws
pub mod RegisterLaws
pub mod WrittenStatements
pub mod ReadBack
pub mod WrittenLines
