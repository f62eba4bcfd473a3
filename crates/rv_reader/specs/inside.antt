-- What the code alone keeps.
pub mod Progress
pub mod Fed
pub mod Answered
pub mod laws
