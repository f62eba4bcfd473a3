pub mod State
pub mod laws
