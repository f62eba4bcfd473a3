-- What is proved of the states that the code alone keeps.
pub mod Blocks
pub mod Entries
pub mod Gathering
pub mod Kept
pub mod Matching
pub mod Numerals
pub mod Parts
pub mod ReadBack
pub mod WrittenLines
