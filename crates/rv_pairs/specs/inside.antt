-- What the code alone keeps.
pub mod Codes
pub mod Cells
pub mod Chained
pub mod Standing
