pub mod Fitting
pub mod Statements
pub mod Moves
pub mod Classical
pub mod Steps
