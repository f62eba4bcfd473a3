-- What is proved of the states that the code alone keeps.
pub mod Moving
pub mod Rungs
pub mod Ladders
pub mod Fitting
pub mod Nets
pub mod Flips
pub mod Clean
pub mod Circuits
pub mod Totals
pub mod Few
