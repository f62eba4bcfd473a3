-- What the code alone keeps.
pub mod Flat
pub mod Kinds
pub mod Lexing
pub mod Reached
pub mod Parts
pub mod Views
pub mod Written
pub mod Ends
