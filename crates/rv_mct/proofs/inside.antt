-- What is proved of the states that the code alone keeps.
pub mod Ladders
pub mod LongFlips
pub mod Splits
pub mod Gates
pub mod Counts
pub mod Steps
pub mod Overlay
