-- What the code alone keeps.
pub mod Slots
pub mod Brings
pub mod Shorter
