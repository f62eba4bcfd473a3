-- What the code alone keeps.
pub mod Mixed
pub mod Shown
pub mod Slots
pub mod Standing
