-- What the code alone keeps.
pub mod Kept
pub mod Writable
