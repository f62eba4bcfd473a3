-- What is proved of the states that the code alone keeps.
pub mod Inverse
pub mod Ends
pub mod CellLemmas
pub mod Numerals
pub mod RowsBack
pub mod ReadBack
pub mod Visited
pub mod Flips
pub mod Tables
