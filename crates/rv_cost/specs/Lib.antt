pub mod Levels
pub mod CircuitCost
pub mod NetCost
pub mod inside
