-- What the code alone keeps.
pub mod laws
